use Rattle.xn_components.proofs.Beside.{BesideUpTo}
use Rattle.xn_components.proofs.laying.beside.Given as goal

abbrev pub invariant-loop-d : goal.invariant-loop-d
invariant-loop-d l = BesideUpTo l.fn.next.items l.map.next l.both.items l.d
