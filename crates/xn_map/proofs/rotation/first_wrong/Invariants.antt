use Rattle.std.proofs.Common.{◌≡◌, ℕ, ◌<◌, length}
use Rattle.xn_model.specs.Lists.{at}
use Rattle.xn_map.specs.Rotation.{LeadsWrong, MarksTargets}
use Rattle.xn_map.proofs.rotation.first_wrong.Given as goal

abbrev pub invariant-loop-d : goal.invariant-loop-d
invariant-loop-d l = record {
  marked : MarksTargets (length l.next) (at l.next) l.d l.taken;
  right : (e : ℕ) → e < l.d → ¬ (LeadsWrong l.web.ends (at l.next) e);
  same_length : length l.taken ≡ length l.next;
}
