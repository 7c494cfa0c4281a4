use Rattle.std.proofs.Common.{◌≡◌}
use Rattle.xn_hint.proofs.shrinking.shrink.Given as goal

abbrev pub invariant-loop : goal.invariant-loop
invariant-loop l = l.web ≡ l.fn.web
