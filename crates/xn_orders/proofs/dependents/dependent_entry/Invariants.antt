use Rattle.std.proofs.Common.{ℕ, ◌<◌}
use Rattle.xn_model.specs.Lists.{at}
use Rattle.xn_model.specs.Orders.{order_at}
use Rattle.xn_orders.specs.Entries.{IsDependent, NoEntryOf}
use Rattle.xn_orders.proofs.dependents.dependent_entry.Given as goal

-- the edges so far have no dependent entry
abbrev pub invariant-loop-i : goal.invariant-loop-i
invariant-loop-i l =
    (j : ℕ) → j < l.i → NoEntryOf (order_at l.edges l.orders) (IsDependent l.graph.ends (order_at l.edges l.orders)) (at l.edges j)
