use Rattle.std.proofs.Common.{◌≡◌, ℕ, ◌<◌, length, not}
use Rattle.std.specs.List.{count_by}
use Rattle.xn_model.specs.Lists.{at}
use Rattle.xn_model.specs.Permutation.{iterate}
use Rattle.xn_map.proofs.Marking.{MarksWalk}
use Rattle.xn_map.proofs.rotation.mark_ring.Given as goal

abbrev pub invariant-loop-marks : goal.invariant-loop-marks
invariant-loop-marks l = record {
  dart : l.e < length l.next;
  walk : (k : ℕ) × (l.e ≡ iterate (at l.next) k l.d) × MarksWalk (length l.next) (at l.next) l.d k l.initial.marks l.marks;
}

abbrev pub decreases-loop-marks : goal.decreases-loop-marks
decreases-loop-marks l = count_by not l.marks
