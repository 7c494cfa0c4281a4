use Rattle.std.proofs.Common.{ℕ, ◌<◌}
use Rattle.xn_orders.specs.Entries.{IsClose}
use Rattle.xn_orders.proofs.dependents.close_in.Given as goal

-- the entries so far are independent of the edge
abbrev pub invariant-loop-f : goal.invariant-loop-f
invariant-loop-f l = (j : ℕ) → j < l.f-index → ¬ (IsClose l.graph.ends l.e l.list j)
