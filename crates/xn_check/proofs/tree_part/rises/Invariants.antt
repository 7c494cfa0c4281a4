use Rattle.xn_check.proofs.Leaves.{RiseTo}
use Rattle.xn_check.proofs.tree_part.rises.Given as goal

abbrev pub invariant-loop-i : goal.invariant-loop-i
invariant-loop-i l = RiseTo l.fn.parts l.i
