use Rattle.std.proofs.Common.{◌≡◌}
use Rattle.xn_hint.proofs.shrinking.settle_all.Given as goal

abbrev pub invariant-loop-v : goal.invariant-loop-v
invariant-loop-v l = l.web ≡ l.fn.web
