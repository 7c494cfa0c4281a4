use Rattle.std.proofs.Common.{◌∙◌, sym, length, arith}
use Rattle.std.proofs.lemmas.List.{get_or_past}
use Rattle.xn_brute.proofs.OrdersAt.{order_of-at}
use Rattle.xn_brute.proofs.orders.order.Goals as goal

pub returns-then-i-len-clause-list : goal.returns-then-i-len-clause-list
returns-then-i-len-clause-list c = c.at.ensures ∙ sym (order_of-at (length c.args.graph.now.ends) c.args.orders.now c.args.e c.requires.edge)

pub returns-else-i-len-clause-list : goal.returns-else-i-len-clause-list
returns-else-i-len-clause-list c =
    sym (order_of-at (length c.args.graph.now.ends) c.args.orders.now c.args.e c.requires.edge ∙ get_or_past c.args.orders.now c.args.e _ (omega (arith, c.if-i-len.false, c.len.ensures)))
