use Rattle.std.proofs.Common.{◌≡◌, drop}
use Rattle.xn_model.specs.Orders.{order_at}
use Rattle.xn_brute.proofs.leaves.order_of.Given as goal

abbrev pub invariant-loop-i : goal.invariant-loop-i
invariant-loop-i l = order_at (drop l.i l.edges) (drop l.i l.row.orders) l.e ≡ order_at l.edges l.row.orders l.e
