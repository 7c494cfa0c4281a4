-- Faces that have corners at given nodes.
use Rattle.std.specs.Prelude.{◌≡◌, ℕ, ◌<◌, List, length}
use Rattle.xn_model.specs.Lists.{at}
use Rattle.xn_model.specs.Map.{face_step}
use Rattle.xn_model.specs.Permutation.{Reaches}
use Rattle.xn_map.specs.Anchored.{IsDartOf}
use Rattle.xn_map.specs.Listed.{ListedMap}

-- e is a dart of v, and the corner after it lies in the face of the corner after d
abbrev pub IsCornerIn : ListedMap → ℕ → ℕ → ℕ → Type 0
IsCornerIn m d v e = IsDartOf m.web.ends v e × Reaches (face_step (at m.next)) (at m.next d) (at m.next e)

-- the face of the corner after d has a corner at v
abbrev pub HasCornerAt : ListedMap → ℕ → ℕ → Type 0
HasCornerAt m d v = (e : ℕ) × IsCornerIn m d v e

-- it has one at each of these nodes
abbrev pub HasCorners : ListedMap → ℕ → List ℕ → Type 0
HasCorners m d nodes = (i : ℕ) → i < length nodes → HasCornerAt m d (at nodes i)

-- no face with a corner at u has one at each of these nodes
abbrev pub NoFaceFrom : ListedMap → ℕ → List ℕ → Type 0
NoFaceFrom m u nodes = (d : ℕ) → IsDartOf m.web.ends u d → ¬ (HasCorners m d nodes)
