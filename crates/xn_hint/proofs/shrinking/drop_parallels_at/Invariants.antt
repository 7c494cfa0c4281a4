use Rattle.std.proofs.Common.{◌≡◌, ◌<◌}
use Rattle.xn_hint.proofs.shrinking.drop_parallels_at.Given as goal

abbrev pub invariant-loop : goal.invariant-loop
invariant-loop l = (l.web ≡ l.fn.web) × (l.d < l.fn.web.1)
