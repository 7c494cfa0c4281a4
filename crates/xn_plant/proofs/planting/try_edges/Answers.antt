use Rattle.std.proofs.Common.{◌∙◌, List, ℕ, ap, subst, sym}
use Rattle.xn_model.specs.Graph.{Graph, HasNoLoop}
use Rattle.xn_model.specs.Orders.{IsOrders, order_at}
use Rattle.xn_model.specs.Web.{web_of}
use Rattle.xn_kinds.specs.Row.{EvidenceHolds}
use Rattle.xn_tree.specs.Given.{state_of}
use Rattle.xn_plant.specs.Listed.{planted_lists}
use Rattle.xn_plant.specs.Planting.{IsRowOfState, IsTested}
use Rattle.xn_plant.proofs.Shown.{orders_from, row_of_state}
use Rattle.xn_plant.proofs.planting.try_edges.Goals as goal

pub planarise-requires-clause-orders : goal.planarise-requires-clause-orders
planarise-requires-clause-orders g c =
    let s = state_of c.args.given.now in
    let is = c.in_ok-orders.ensures ∙ ap (planted_lists s) c.as_slice.ensures.value in
    subst (λ (es : List ℕ). IsOrders c.args.graph.now.ends es (order_at es c.in_ok-orders.orders)) (sym c.as_slice-2.ensures.value)
    (orders_from c.args.graph.now s c.requires.state c.args.edges.items c.requires.edges c.in_ok-orders.orders is)

pub planar-requires : goal.planar-requires
planar-requires g c =
    let s = state_of c.args.given.now in
    let is = c.in_ok-orders.ensures ∙ ap (planted_lists s) c.as_slice.ensures.value in
    let orders = orders_from c.args.graph.now s c.requires.state c.args.edges.items c.requires.edges c.in_ok-orders.orders is in
    let web = c.in_ok-web.ensures.web ∙ ap (λ (es : List ℕ). web_of c.args.graph.now es (order_at es c.in_ok-orders.orders)) c.as_slice-2.ensures.value in
    subst (λ (w : Graph). HasNoLoop w.ends) (sym web)
    (c.no_loops.ensures c.args.graph.now c.args.edges.items (order_at c.args.edges.items c.in_ok-orders.orders) c.nodes-nodes.ensures.limited.is_graph orders)

pub returns-in-Not : goal.returns-in-Not
returns-in-Not g c =
    let graph = c.args.graph.now in
    let s = state_of c.args.given.now in
    let orders = c.in_ok-orders.orders in
    let is = c.in_ok-orders.ensures ∙ ap (planted_lists s) c.as_slice.ensures.value in
    let web = c.in_ok-web.ensures.web ∙ ap (λ (es : List ℕ). web_of graph es (order_at es orders)) c.as_slice-2.ensures.value in
    let tested = subst (IsTested c.in_ok-web.web) c.in-Not.is c.in_ok-map.ensures in
    let holds = subst (λ (w : Graph). EvidenceHolds w c.in-Not.evidence) web tested.0 in
    subst (λ (es : List ℕ). IsRowOfState graph s (record { edges = es; orders = orders; evidence = c.in-Not.evidence })) (sym c.new.ensures)
    (row_of_state graph s c.requires.state c.args.edges.items c.requires.edges orders c.in-Not.evidence is holds tested.2)
