use Rattle.xn_insert.specs.Routed.{AreDualEnds}
use Rattle.xn_insert.proofs.faces.dual_ends.Given as goal

abbrev pub invariant-loop-s : goal.invariant-loop-s
invariant-loop-s l = AreDualEnds l.names l.s l.ends.items
