use Rattle.std.proofs.Common.{◌≡◌, length}
use Rattle.xn_model.specs.Lists.{at}
use Rattle.xn_map.proofs.Rotations.{Together}
use Rattle.xn_map.proofs.rotation.first_apart.Given as goal

abbrev pub invariant-loop-d : goal.invariant-loop-d
invariant-loop-d l = record {
  together : Together l.web.ends (at l.next) l.d l.begun l.met;
  begun_length : length l.begun ≡ l.web.nodes;
  met_length : length l.met ≡ length l.next;
}
