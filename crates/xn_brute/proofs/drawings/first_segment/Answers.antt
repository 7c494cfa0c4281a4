use Rattle.xn_brute.proofs.OrdersAt.{edge_at}
use Rattle.xn_brute.proofs.drawings.first_segment.Goals as goal

pub order-requires-clause-edge : goal.order-requires-clause-edge
order-requires-clause-edge c = edge_at c.args.graph.now c.args.edges.now c.loop-x.x-index c.requires.edges c.loop-x-test.true
