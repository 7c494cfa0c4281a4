-- Corners, and the face of each.
use Rattle.std.specs.Prelude.{◌≡◌, ℕ, ◌<◌, true, length}
use Rattle.xn_model.specs.Map.{face_step, is_lone}
use Rattle.xn_model.specs.Permutation.{Reaches}
use Rattle.xn_map.specs.Listed.{ListedMap}
use Rattle.xn_map.specs.declared.corners.Corner.{Corner}
use Rattle.xn_map.specs.declared.corners.Corner.TheVariants.{After, Lone}

-- the corner is one of the map: after a dart, or at a node without darts
abbrev pub IsCorner : ListedMap → Corner → Type 0
IsCorner m (After d) = d < length m.next
IsCorner m (Lone v) = (v < m.web.nodes) × (is_lone m.web.ends v ≡ true)

-- the two corners lie in one face: that of the next dart, or of the node
abbrev pub InOneFace : (ℕ → ℕ) → Corner → Corner → Type 0
InOneFace next (After d) (After e) = Reaches (face_step next) (next d) (next e)
InOneFace next (After d) (Lone v) = ⊥
InOneFace next (Lone u) (After e) = ⊥
InOneFace next (Lone u) (Lone v) = u ≡ v
