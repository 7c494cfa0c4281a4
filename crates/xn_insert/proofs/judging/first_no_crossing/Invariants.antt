use Rattle.std.proofs.Common.{ℕ, ◌<◌, ◌≤◌}
use Rattle.xn_insert.specs.Judged.{IsUnmarkedFour}
use Rattle.xn_insert.proofs.judging.first_no_crossing.Given as goal

abbrev pub invariant-loop-v : goal.invariant-loop-v
invariant-loop-v l = (w : ℕ) → l.low ≤ w → w < l.v → IsUnmarkedFour l.stars.ends l.bends w
