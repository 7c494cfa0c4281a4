-- A part of a web under numbers of its own, and the rotation that passes over all other darts.
use Rattle.std.specs.Prelude.{◌≡◌, ◌≢◌, ℕ, suc, ◌+◌, ◌*◌, ◌/◌, ◌%◌, ◌<◌, ◌==◌, List, length, map, if◌then◌else◌}
use Rattle.xn_model.specs.Graph.{ends_at}
use Rattle.xn_model.specs.Lists.{at}
use Rattle.xn_model.specs.Map.{reverse_of, tail_of}
use Rattle.xn_model.specs.Permutation.{iterate}

-- the part has some of the web's segments, in any order and either direction: its dart j is the dart e j of the web
pub record IsPart (ends part : List (ℕ × ℕ)) (e : ℕ → ℕ) : Type 0 where
  pub below : (j : ℕ) → j < 2 * length part → e j < 2 * length ends
  pub apart : (i j : ℕ) → i < 2 * length part → j < 2 * length part → e i ≡ e j → i ≡ j
  pub reverses : (j : ℕ) → j < 2 * length part → e (reverse_of j) ≡ reverse_of (e j)
  pub tails : (j : ℕ) → j < 2 * length part → tail_of part j ≡ tail_of ends (e j)

-- the walk from d comes to z, and before that to no e j with j below count
pub record ComesFirst (count : ℕ) (e next : ℕ → ℕ) (d z : ℕ) : Type 0 where
  pub steps : ℕ
  pub there : iterate next (suc steps) d ≡ z
  pub between : (i j : ℕ) → i < steps → j < count → iterate next (suc i) d ≢ e j

-- after leads each dart of the part to the first dart of the part that follows in the web
pub record PassesOver (count : ℕ) (e next after : ℕ → ℕ) : Type 0 where
  pub below : (j : ℕ) → j < count → after j < count
  pub first : (j : ℕ) → j < count → ComesFirst count e next (e j) (e (after j))

-- ---- parts along lists

-- darts of different segments
pub record AreDartsApart (ends : List (ℕ × ℕ)) (darts : List ℕ) : Type 0 where
  pub darts_in : (i : ℕ) → i < length darts → at darts i < 2 * length ends
  pub segments_apart : (i j : ℕ) → i < length darts → j < length darts → at darts i / 2 ≡ at darts j / 2 → i ≡ j

-- dart 2i of the part is the listed dart i, and 2i + 1 its reverse
abbrev pub dart_along : List ℕ → ℕ → ℕ
dart_along darts j = if j % 2 == 0 then at darts (j / 2) else reverse_of (at darts (j / 2))

-- the segments of the listed darts, each in the direction of its dart
abbrev pub ends_along : List (ℕ × ℕ) → List ℕ → List (ℕ × ℕ)
ends_along ends darts = map (λ d. (tail_of ends d, tail_of ends (reverse_of d))) darts

-- different segments
pub record AreSegmentsApart (ends : List (ℕ × ℕ)) (segments : List ℕ) : Type 0 where
  pub segments_in : (i : ℕ) → i < length segments → at segments i < length ends
  pub apart : (i j : ℕ) → i < length segments → j < length segments → at segments i ≡ at segments j → i ≡ j

-- the darts of the listed segment i are 2i and 2i + 1
abbrev pub dart_listed : List ℕ → ℕ → ℕ
dart_listed segments j = 2 * at segments (j / 2) + j % 2

-- the listed segments
abbrev pub ends_listed : List (ℕ × ℕ) → List ℕ → List (ℕ × ℕ)
ends_listed ends segments = map (ends_at ends) segments
