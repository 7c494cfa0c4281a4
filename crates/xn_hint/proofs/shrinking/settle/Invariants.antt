use Rattle.std.proofs.Common.{◌≡◌, ◌<◌}
use Rattle.xn_hint.proofs.shrinking.settle.Given as goal

abbrev pub invariant-loop : goal.invariant-loop
invariant-loop l = (l.web ≡ l.fn.web) × (l.v < l.fn.web.0)
