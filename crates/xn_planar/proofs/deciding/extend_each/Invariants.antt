use Rattle.xn_components.proofs.LaidBelow.{AreLaidBelow}
use Rattle.xn_planar.proofs.deciding.extend_each.Given as goal

abbrev pub invariant-loop-s : goal.invariant-loop-s
invariant-loop-s l = AreLaidBelow l.web l.s l.marks l.laid
