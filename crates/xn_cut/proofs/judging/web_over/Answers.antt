use Rattle.std.proofs.Common.{subst, sym}
use Rattle.xn_model.specs.Graph.{Graph, HasNoLoop}
use Rattle.xn_model.specs.Orders.{order_at}
use Rattle.xn_cut.proofs.judging.web_over.Goals as goal

pub returns-clause-no_loop : goal.returns-clause-no_loop
returns-clause-no_loop c =
    subst (λ (w : Graph). HasNoLoop w.ends) (sym c.in_ok-web.ensures.web)
    (c.no_loops.ensures c.args.graph.now c.args.edges.now (order_at c.args.edges.now c.args.orders.now) c.nodes-nodes.ensures.limited.is_graph c.requires.orders)
