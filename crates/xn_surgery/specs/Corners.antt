-- Corners of a map, where darts can be put.
use Rattle.std.specs.Prelude.{◌≡◌, ℕ, ◌*◌, ◌<◌, ◌==◌, true, List, length, if◌then◌else◌}
use Rattle.xn_model.specs.Map.{face_step, is_lone, tail_of}
use Rattle.xn_model.specs.Permutation.{Reaches}

-- between a dart and the next dart of its node, or the whole round of a node without darts
pub data Corner : Type 0 where
  after : ℕ → Corner
  lone : ℕ → Corner

-- the node of a corner
abbrev pub node_of : List (ℕ × ℕ) → Corner → ℕ
node_of ends (after d) = tail_of ends d
node_of ends (lone v) = v

-- the corner is one of the web
abbrev pub IsCornerOf : ℕ → List (ℕ × ℕ) → Corner → Type 0
IsCornerOf nodes ends (after d) = d < 2 * length ends
IsCornerOf nodes ends (lone v) = (v < nodes) × (is_lone ends v ≡ true)

-- the corners lie in one face: that after d is in the face of the dart that follows d
abbrev pub InOneFace : (ℕ → ℕ) → Corner → Corner → Type 0
InOneFace next (after d) (after e) = Reaches (face_step next) (next d) (next e)
InOneFace next (after d) (lone v) = ⊥
InOneFace next (lone u) (after e) = ⊥
InOneFace next (lone u) (lone v) = u ≡ v

-- the rotation once the dart z stands in the corner, right after d or alone
abbrev pub stand_at : Corner → ℕ → (ℕ → ℕ) → ℕ → ℕ
stand_at (after d) z next x = if x == d then z else (if x == z then next d else next x)
stand_at (lone v) z next x = if x == z then z else next x
