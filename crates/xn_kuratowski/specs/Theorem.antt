-- Kuratowski's theorem over maps, by minors and by subdivisions.
use Rattle.std.specs.Prelude.{ℕ, ◌⊎◌, ◌↔◌, List}
use Rattle.xn_model.specs.Evidence.{IsFive, IsThreeThree}
use Rattle.xn_model.specs.Graph.{EndsIn, Graph, HasNoLoop}
use Rattle.xn_model.specs.Map.{IsFlat}
use Rattle.xn_kuratowski.specs.Reduction.{IsFlatOrHasMinor}

-- an evidence of one of the two kinds holds
abbrev pub HasEvidence : Graph → Type 0
HasEvidence web = (branch : List ℕ) × (paths : List (List ℕ)) × (IsFive web branch paths ⊎ IsThreeThree web branch paths)

-- every web without loops has a flat map, or K5 or K3,3 as a minor
abbrev pub FlatOrMinor : Type 0
FlatOrMinor = (nodes : ℕ) (ends : List (ℕ × ℕ)) → EndsIn nodes ends → HasNoLoop ends → IsFlatOrHasMinor nodes ends

-- every web without loops has a flat map, or an evidence of one of the two kinds holds for it
abbrev pub FlatOrEvidence : Type 0
FlatOrEvidence = (web : Graph) → EndsIn web.nodes web.ends → HasNoLoop web.ends → ((next : ℕ → ℕ) × IsFlat web next) ⊎ HasEvidence web

-- so such a web has a flat map exactly where no evidence of the two kinds holds for it
abbrev pub FlatWhereNoEvidence : Type 0
FlatWhereNoEvidence =
    (web : Graph) → EndsIn web.nodes web.ends → HasNoLoop web.ends → ((next : ℕ → ℕ) × IsFlat web next) ↔ (¬ HasEvidence web)
