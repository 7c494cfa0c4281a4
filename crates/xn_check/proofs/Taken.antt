-- Lines that keep their forms.
use Rattle.std.proofs.Common.{◌≡◌, Bool, true, false, cond, Result, Ok, Err, ap, ◌∙◌}
use Rattle.xn_kinds.specs.declared.flaws.Flaw.{Flaw}
use Rattle.xn_text.specs.Pieces.{words_of}
use Rattle.xn_proof.specs.Forms.{Line, Reached, is_end, next_at, rule_at, words_at}
use Rattle.xn_proof.specs.Reading.{◌>>=◌}
use Rattle.xn_proof.proofs.Steps.{bind_ok, ok_is}
use Rattle.xn_proof.specs.declared.item.Item.{Item}
use Rattle.xn_proof.specs.declared.places.Place.{Place}

-- what a line says, and the place after it
pub given : {A : Type 0} (r : Result A Flaw) (f : A → Item × Place) (y : Item × Place) → (r >>= λ x. Ok (f x)) ≡ Ok y → (x : A) × (f x ≡ y)
given (Ok x) f y e = (x, cc)
given (Err d) f y e = absurd cc

-- a line that keeps its form isn't behind the end, and is ended
tests : {A : Type 0} (b c : Bool) (d f : Flaw) (w : Result A Flaw) (x : A) → cond b (Err d) (cond c w (Err f)) ≡ Ok x → w ≡ Ok x
tests true c d f w x e = absurd cc
tests false true d f w x e = e
tests false false d f w x e = absurd cc

pub taken : (at : Reached) (line : Line) (next : Item × Reached) → next_at at line ≡ Ok next → words_at at.1 at.0 (words_of line.0) ≡ Ok (next.0, next.1.1)
taken at line next e =
    let first = bind_ok (rule_at at.1 at.0 line) _ next e in
    tests (is_end at.1) line.1 _ _ _ (next.0, next.1.1)
    (first.1 ∙ ap (λ (n : Item × Reached). Ok (n.0, n.1.1)) (ok_is _ next first.2))
