use Rattle.std.proofs.Common.{◌≢◌, ℕ, ◌<◌}
use Rattle.xn_model.specs.Graph.{ends_at}
use Rattle.xn_reach.proofs.tests.has_no_loop.Given as goal

-- no segment passed is a loop
abbrev pub invariant-loop-s : goal.invariant-loop-s
invariant-loop-s l = (e : ℕ) → e < l.s → (ends_at l.web.ends e).0 ≢ (ends_at l.web.ends e).1
