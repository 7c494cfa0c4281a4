use Rattle.xn_components.proofs.Flooded.{FloodsSome}
use Rattle.xn_components.proofs.flood.flood.Given as goal

abbrev pub invariant-loop-i : goal.invariant-loop-i
invariant-loop-i l = FloodsSome l.web.ends l.fn.marks l.fn.met l.fn.list.items l.marks l.met l.list.items l.i
