use Rattle.std.proofs.Common.{◌≡◌, ℕ, ◌<◌, length}
use Rattle.xn_model.specs.Lists.{at}
use Rattle.xn_map.proofs.rotation.link.Given as goal

abbrev pub invariant-loop-d : goal.invariant-loop-d
invariant-loop-d l = record {
  same_length : length l.rings ≡ length l.next;
  linked : (e : ℕ) → e < l.d → at l.rings e ≡ at l.next e;
}
