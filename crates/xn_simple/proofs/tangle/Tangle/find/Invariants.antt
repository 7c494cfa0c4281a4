use Rattle.xn_simple.specs.Tangle.{lists_in}
use Rattle.xn_simple.specs.Untangling.{MeetsSoFar}
use Rattle.xn_simple.proofs.tangle.Tangle.find.Given as goal

abbrev pub invariant-loop-i : goal.invariant-loop-i
invariant-loop-i l = MeetsSoFar l.graph (lists_in l.self) l.e l.i l.met
