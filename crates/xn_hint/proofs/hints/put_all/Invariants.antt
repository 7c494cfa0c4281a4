use Rattle.std.proofs.Common.{◌≡◌}
use Rattle.xn_hint.proofs.hints.put_all.Given as goal

abbrev pub invariant-loop-s : goal.invariant-loop-s
invariant-loop-s l = l.shrinking ≡ l.fn.shrinking
