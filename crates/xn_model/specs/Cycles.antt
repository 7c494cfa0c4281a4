-- Cycles of a web, its blocks, and its cut nodes.
use Rattle.std.specs.Prelude.{◌≡◌, ℕ, ◌/◌, ◌<◌, ◌≤◌, ◌⊎◌, true, List, length, map, nat_eq}
use Rattle.std.specs.List.{IsDistinct}
use Rattle.xn_model.specs.Graph.{ends_at, touches}
use Rattle.xn_model.specs.Lists.{at, has}
use Rattle.xn_model.specs.Map.{WalksTo, tail_of}

-- the segments of the darts
abbrev pub segments_along : List ℕ → List ℕ
segments_along darts = map (λ d. d / 2) darts

-- a closed walk of at least two darts that meets no segment and no node twice
pub record IsCycle (ends : List (ℕ × ℕ)) (darts : List ℕ) : Type 0 where
  pub two : 2 ≤ length darts
  pub closed : WalksTo ends (tail_of ends (at darts 0)) darts (tail_of ends (at darts 0))
  pub segments_once : IsDistinct nat_eq (segments_along darts)
  pub nodes_once : IsDistinct nat_eq (map (tail_of ends) darts)

-- some cycle has both segments
abbrev pub ShareCycle : List (ℕ × ℕ) → ℕ → ℕ → Type 0
ShareCycle ends s t =
    (darts : List ℕ) × IsCycle ends darts × (has (segments_along darts) s ≡ true) × (has (segments_along darts) t ≡ true)

-- they are equal or lie on a common cycle
abbrev pub AreInOneBlock : List (ℕ × ℕ) → ℕ → ℕ → Type 0
AreInOneBlock ends s t = (s ≡ t) ⊎ ShareCycle ends s t

-- v meets segments of two blocks
pub record IsCut (ends : List (ℕ × ℕ)) (v : ℕ) : Type 0 where
  pub first : ℕ
  pub second : ℕ
  pub first_in : first < length ends
  pub second_in : second < length ends
  pub meets_first : touches (ends_at ends first) v ≡ true
  pub meets_second : touches (ends_at ends second) v ≡ true
  pub two_blocks : ¬ AreInOneBlock ends first second
