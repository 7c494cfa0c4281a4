use Rattle.std.proofs.Common.{◌≡◌, take}
use Rattle.std.specs.List.{flat_map}
use Rattle.xn_model.specs.Orders.{order_at}
use Rattle.xn_model.specs.Web.{segments_of}
use Rattle.xn_orders.proofs.planar.segments.Given as goal

-- the segments of the edges so far
abbrev pub invariant-loop-i : goal.invariant-loop-i
invariant-loop-i l = l.ends.items ≡ flat_map (segments_of l.graph l.pairs (order_at l.edges l.orders)) (take l.i l.edges)
