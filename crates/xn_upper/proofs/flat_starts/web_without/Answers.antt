use Rattle.std.proofs.Common.{List, ℕ, sym, ◌∙◌, ap, subst}
use Rattle.xn_model.specs.Graph.{Graph, HasNoLoop}
use Rattle.xn_model.specs.Orders.{IsOrders, order_at}
use Rattle.xn_model.specs.Web.{web_of}
use Rattle.xn_upper.specs.Upper.{empty_lists}
use Rattle.xn_upper.proofs.Bare.{bare_orders}
use Rattle.xn_upper.proofs.flat_starts.web_without.Goals as goal

pub planarise-requires-clause-orders : goal.planarise-requires-clause-orders
planarise-requires-clause-orders c =
    let g = c.args.graph.now in
    let edges = c.args.edges.now in
    subst (λ (ls : List (List ℕ)). IsOrders g.ends edges (order_at edges ls)) (sym c.in_ok-orders.ensures) (bare_orders g.ends edges c.requires)

pub returns-clause-no_loop : goal.returns-clause-no_loop
returns-clause-no_loop c =
    let g = c.args.graph.now in
    let edges = c.args.edges.now in
    let web = c.in_ok-web.ensures.web ∙ ap (λ (ls : List (List ℕ)). web_of g edges (order_at edges ls)) c.in_ok-orders.ensures in
    subst (λ (w : Graph). HasNoLoop w.ends) (sym web)
    (c.no_loops.ensures g edges (order_at edges (empty_lists edges)) c.nodes-nodes.ensures.limited.is_graph (bare_orders g.ends edges c.requires))
