use Rattle.std.proofs.Common.{◌+◌, ◌*◌, ◌<◌, ◌↔◌}
use Rattle.xn_frac.proofs.whole.is_below.Given as goal

abbrev pub invariant-loop-a : goal.invariant-loop-a
invariant-loop-a l = (0 < l.q) × (0 < l.s) × ((l.p * l.s < l.r * l.q) ↔ (l.fn.a * l.fn.d < l.fn.c * l.fn.b))

abbrev pub decreases-loop-a : goal.decreases-loop-a
decreases-loop-a l = l.q + l.s
