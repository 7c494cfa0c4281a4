use Rattle.std.proofs.Common.{length}
use Rattle.xn_model.proofs.Ranges.{edge_list}
use Rattle.xn_orders.proofs.tests.planarised.Goals as goal

pub orders_flaw-requires-clause-edges : goal.orders_flaw-requires-clause-edges
orders_flaw-requires-clause-edges c = rw (c.deref-2.ensures.value, c.in_ok-edges.ensures) (edge_list (length c.in_ok-k5.k5.ends))
