use Rattle.std.proofs.Common.{◌≡◌}
use Rattle.xn_hint.proofs.shrinking.drop_parallels.Given as goal

abbrev pub invariant-loop-v : goal.invariant-loop-v
invariant-loop-v l = l.web ≡ l.fn.web
