use Rattle.std.proofs.Common.{◌≡◌, ℕ, ◌<◌}
use Rattle.xn_model.specs.Lists.{at}
use Rattle.xn_insert.proofs.judging.first_not_once.Given as goal

abbrev pub invariant-loop-s : goal.invariant-loop-s
invariant-loop-s l = (t : ℕ) → t < l.s → at l.times t ≡ 1
