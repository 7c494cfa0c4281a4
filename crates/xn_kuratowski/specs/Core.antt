-- Cores: webs without a flat map, of which each web with one segment less has one.
use Rattle.std.specs.Prelude.{◌≡◌, ℕ, zero, suc, ◌<◌, ◌⊎◌, List, [], ◌∷◌, length, Option, Some}
use Rattle.xn_model.specs.Evidence.{IsFive, IsThreeThree}
use Rattle.xn_model.specs.Graph.{EndsIn, Graph, HasNoLoop}
use Rattle.xn_model.specs.Map.{IsFlat}
use Rattle.xn_kinds.specs.declared.rows.Evidence.{Evidence}
use Rattle.xn_kura.specs.Kinds.{IsFoundIn, IsWhole, UsesAll}
use Rattle.xn_fewer.specs.Flat.{HasFlat}

-- the web without the segment s
abbrev pub left_without : ℕ → List (ℕ × ℕ) → List (ℕ × ℕ)
left_without s [] = []
left_without zero (p ∷ ends) = ends
left_without (suc s) (p ∷ ends) = p ∷ left_without s ends

-- a web without loops and without a flat map, each of whose webs with one segment less has one
pub record IsCore (web : Graph) : Type 0 where
  pub ends_in : EndsIn web.nodes web.ends
  pub no_loop : HasNoLoop web.ends
  pub not_flat : (next : ℕ → ℕ) → ¬ IsFlat web next
  pub flat_without : (s : ℕ) → s < length web.ends → HasFlat web.nodes (left_without s web.ends)

-- a core is a subdivision of K5 or of K3,3, and nodes without segments
abbrev pub CoresAreSubdivisions : Type 0
CoresAreSubdivisions =
    (web : Graph) → IsCore web →
    (branch : List ℕ) × (paths : List (List ℕ)) × (IsFive web branch paths ⊎ IsThreeThree web branch paths) × UsesAll web paths

-- so a search that finds such an evidence wherever there is one finds one for every core
abbrev pub CoresAreFound : Type 0
CoresAreFound =
    (web : Graph) (found : Option Evidence) → IsCore web → IsFoundIn web found →
    (evidence : Evidence) × (found ≡ Some evidence) × IsWhole web evidence
