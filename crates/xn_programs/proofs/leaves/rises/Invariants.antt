use Rattle.xn_programs.proofs.Parts.{RiseTo}
use Rattle.xn_programs.proofs.leaves.rises.Given as goal

abbrev pub invariant-loop-i : goal.invariant-loop-i
invariant-loop-i l = RiseTo l.fn.parts l.i
