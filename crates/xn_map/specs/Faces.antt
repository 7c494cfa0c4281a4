-- Faces of darts.
use Rattle.std.specs.Prelude.{ℕ, List, length}
use Rattle.xn_model.specs.Lists.{at}
use Rattle.xn_model.specs.Map.{face_step}
use Rattle.xn_model.specs.Permutation.{cycle_count}

-- the number of cycles of the face walk, of listed successors
abbrev pub face_cycles_of : List ℕ → ℕ
face_cycles_of next = cycle_count (length next) (face_step (at next))
