-- The darts of a node in the order in which they turn round it.
use Rattle.std.specs.Prelude.{◌≡◌, ℕ, ◌*◌, ◌<◌, ◌≤◌, ◌↔◌, true, nat_eq, List, length}
use Rattle.std.specs.List.{IsDistinct}
use Rattle.xn_model.specs.Lists.{at, has}
use Rattle.xn_model.specs.Map.{tail_of}
use Rattle.xn_model.specs.Permutation.{walk}
use Rattle.xn_graph.specs.Stars.{darts_of}

-- the darts at the node v as next leads round it from the least of them; a node without darts has none
abbrev pub turn_of : List (ℕ × ℕ) → (ℕ → ℕ) → ℕ → List ℕ
turn_of ends next v = walk next (length (darts_of ends v)) (at (darts_of ends v) 0)

-- the list has each dart at the node v, once, and the least one first
pub record HasDartsOnce (ends : List (ℕ × ℕ)) (v : ℕ) (turn : List ℕ) : Type 0 where
  pub each : (d : ℕ) → (has turn d ≡ true) ↔ ((d < 2 * length ends) × (tail_of ends d ≡ v))
  pub once : IsDistinct nat_eq turn
  pub least : (d : ℕ) → has turn d ≡ true → at turn 0 ≤ d
