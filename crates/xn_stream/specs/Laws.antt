-- Laws on texts that come in pieces.
use Rattle.std.specs.Prelude.{◌≡◌, ℕ, List, ◌++◌, Err}
use Rattle.xn_model.specs.Graph.{Graph}
use Rattle.xn_kinds.specs.declared.flaws.Flaw.{Flaw}
use Rattle.xn_proof.specs.Forms.{Reached}
use Rattle.xn_check.specs.Said.{Said}
use Rattle.xn_check.specs.Verdict.{Verdict, check_rules}
use Rattle.xn_stream.specs.Pieces.{HasCome, HoldsFlaw}

-- a flaw that the text so far holds is the verdict on it, whatever comes behind
abbrev pub FlawsStay : Type 0
FlawsStay =
    (g : Graph) (loops : ℕ) (text more : List ℕ) (flaw : Flaw) → HoldsFlaw (check_rules g loops) text flaw →
    Verdict g loops (text ++ more) (Err flaw)

-- a text holds one flaw at most
abbrev pub HoldsOneFlaw : Type 0
HoldsOneFlaw =
    (g : Graph) (loops : ℕ) (text : List ℕ) (flaw other : Flaw) → HoldsFlaw (check_rules g loops) text flaw →
    HoldsFlaw (check_rules g loops) text other → flaw ≡ other

-- and none where it has come to a state
abbrev pub ComesWithoutFlaw : Type 0
ComesWithoutFlaw =
    (g : Graph) (loops : ℕ) (text begun : List ℕ) (at : Reached) (s : Said) (flaw : Flaw) →
    HasCome (check_rules g loops) text at s begun → HoldsFlaw (check_rules g loops) text flaw → ⊥
