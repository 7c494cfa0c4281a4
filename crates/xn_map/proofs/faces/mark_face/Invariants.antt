use Rattle.std.proofs.Common.{◌≡◌, ℕ, ◌<◌, length, not}
use Rattle.std.specs.List.{count_by}
use Rattle.xn_model.specs.Lists.{at}
use Rattle.xn_model.specs.Map.{face_step}
use Rattle.xn_model.specs.Permutation.{iterate}
use Rattle.xn_map.proofs.Marking.{MarksWalk}
use Rattle.xn_map.proofs.faces.mark_face.Given as goal

abbrev pub invariant-loop-marks : goal.invariant-loop-marks
invariant-loop-marks l = record {
  dart : l.e < length l.rings;
  walk : (k : ℕ) × (l.e ≡ iterate (face_step (at l.rings)) k l.d) × MarksWalk (length l.rings) (face_step (at l.rings)) l.d k l.initial.marks l.marks;
}

abbrev pub decreases-loop-marks : goal.decreases-loop-marks
decreases-loop-marks l = count_by not l.marks
