use Rattle.std.proofs.Common.{◌≡◌, ◌≤◌, length}
use Rattle.xn_model.specs.Lists.{at}
use Rattle.xn_model.specs.Map.{face_step}
use Rattle.xn_map.proofs.Marking.{CountsCycles}
use Rattle.xn_map.proofs.faces.mark_faces.Given as goal

abbrev pub invariant-loop-d : goal.invariant-loop-d
invariant-loop-d l = record {
  cycles : CountsCycles (length l.rings) (face_step (at l.rings)) l.d l.marks l.count;
  few : l.count ≤ l.d;
  same_length : length l.marks ≡ length l.rings;
}
