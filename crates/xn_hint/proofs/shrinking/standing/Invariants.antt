use Rattle.std.proofs.Common.{◌<◌}
use Rattle.xn_hint.proofs.shrinking.standing.Given as goal

abbrev pub invariant-loop : goal.invariant-loop
invariant-loop l = l.d < l.web.1
