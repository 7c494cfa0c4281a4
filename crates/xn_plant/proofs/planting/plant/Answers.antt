use Rattle.std.proofs.Common.{◌∙◌, ap, length, subst, sym}
use Rattle.xn_model.specs.Graph.{edges_of}
use Rattle.xn_model.specs.Orders.{IsEdgeList}
use Rattle.xn_model.proofs.Ranges.{edge_list}
use Rattle.xn_tree.specs.Given.{state_of}
use Rattle.xn_plant.specs.Listed.{planted_lists}
use Rattle.xn_plant.specs.Planting.{IsTried}
use Rattle.xn_plant.proofs.Shown.{drawn_of_state, lists_fit, orders_from}
use Rattle.xn_plant.proofs.planting.plant.Goals as goal

pub try_edges-requires-clause-edges : goal.try_edges-requires-clause-edges
try_edges-requires-clause-edges g c = subst (IsEdgeList (length c.args.graph.now.ends)) (sym c.in_ok-edges.ensures) (edge_list (length c.args.graph.now.ends))

pub untouch-requires-clause-lists : goal.untouch-requires-clause-lists
untouch-requires-clause-lists g c =
    let s = state_of c.args.given.now in
    let tried = subst (IsTried c.args.graph.now s c.in_ok-edges.edges.items) c.in-Flat.is c.in_ok-orders.ensures in
    lists_fit c.args.graph.now s c.in-Flat.orders (tried.0 ∙ ap (planted_lists s) c.in_ok-edges.ensures)

pub untouch-requires-clause-orders : goal.untouch-requires-clause-orders
untouch-requires-clause-orders g c =
    let s = state_of c.args.given.now in
    let tried = subst (IsTried c.args.graph.now s c.in_ok-edges.edges.items) c.in-Flat.is c.in_ok-orders.ensures in
    orders_from c.args.graph.now s c.requires.state (edges_of c.args.graph.now) (edge_list (length c.args.graph.now.ends)) c.in-Flat.orders (tried.0 ∙ ap (planted_lists s) c.in_ok-edges.ensures)

pub returns-in_ok-drawing-in-Flat : goal.returns-in_ok-drawing-in-Flat
returns-in_ok-drawing-in-Flat g c =
    let s = state_of c.args.given.now in
    let tried = subst (IsTried c.args.graph.now s c.in_ok-edges.edges.items) c.in-Flat.is c.in_ok-orders.ensures in
    drawn_of_state c.args.graph.now s c.requires.state c.in-Flat.orders c.in_ok-drawing-in-Flat.drawing (tried.0 ∙ ap (planted_lists s) c.in_ok-edges.ensures) c.in_ok-drawing-in-Flat.ensures
