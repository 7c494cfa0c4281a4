use Rattle.xn_map.proofs.Anchoring.{FoundBelow}
use Rattle.xn_map.proofs.anchored.find_darts.Given as goal

abbrev pub invariant-loop-d : goal.invariant-loop-d
invariant-loop-d l = FoundBelow l.web l.d l.darts
