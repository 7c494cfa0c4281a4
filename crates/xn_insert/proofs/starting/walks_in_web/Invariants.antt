use Rattle.xn_list.specs.Lists.{lists_of}
use Rattle.xn_model.specs.Orders.{order_at}
use Rattle.xn_insert.specs.Starting.{AreWalksUpTo}
use Rattle.xn_insert.proofs.starting.walks_in_web.Given as goal

-- the edges so far have their walks
abbrev pub invariant-loop-i : goal.invariant-loop-i
invariant-loop-i l = AreWalksUpTo l.graph l.kept (order_at l.kept l.orders) l.i l.first (lists_of l.walks.items)
