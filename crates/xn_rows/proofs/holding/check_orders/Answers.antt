use Rattle.std.proofs.Common.{◌∙◌, ap, length, subst}
use Rattle.std.specs.Prelude.{None, Some}
use Rattle.xn_model.specs.Orders.{IsEdgeList}
use Rattle.xn_orders.specs.declared.flaws.OrdersFlaw.TheVariants.{Dependent}
use Rattle.xn_orders.proofs.Flawed.{found_of_copy}
use Rattle.xn_rows.proofs.Found.{edge_list}
use Rattle.xn_rows.proofs.holding.check_orders.Goals as goal

pub orders_flaw-requires-clause-edges : goal.orders_flaw-requires-clause-edges
orders_flaw-requires-clause-edges c = edge_list _ c.as_slice-edges.result.now (rw c.edges.ensures.value at c.in_default.ensures)

pub returns-in-None-clause-orders : goal.returns-in-None-clause-orders
returns-in-None-clause-orders c =
    let g = c.args.graph.now in
    let row = c.args.row.now in
    found_of_copy g.ends row.orders c.as_slice-edges.result.now row.edges c.as_slice-edges.ensures _ None c.in-None.is c.in_ok-orders_flaw.ensures

pub returns-in-Some-Stray-clause-orders : goal.returns-in-Some-Stray-clause-orders
returns-in-Some-Stray-clause-orders c =
    let g = c.args.graph.now in
    let row = c.args.row.now in
    let list = edge_list (length g.ends) c.as_slice-edges.result.now (rw c.edges.ensures.value at c.in_default.ensures) in
    let is = c.in-Some-Stray.is ∙ ap Some c.in-Some-Stray.field-0-is in
    (subst (IsEdgeList (length g.ends)) c.as_slice-edges.ensures list, found_of_copy g.ends row.orders c.as_slice-edges.result.now row.edges c.as_slice-edges.ensures _ _ is c.in_ok-orders_flaw.ensures)

pub returns-in-Some-Dependent-clause-orders : goal.returns-in-Some-Dependent-clause-orders
returns-in-Some-Dependent-clause-orders c =
    let g = c.args.graph.now in
    let row = c.args.row.now in
    let list = edge_list (length g.ends) c.as_slice-edges.result.now (rw c.edges.ensures.value at c.in_default.ensures) in
    let is = c.in-Some-Dependent.is ∙ ap Some c.in-Some-Dependent.field-0-is in
    let flaw = found_of_copy g.ends row.orders c.as_slice-edges.result.now row.edges c.as_slice-edges.ensures _ (Some (Dependent c.in-Some-Dependent.e c.in-Some-Dependent.f)) is c.in_ok-orders_flaw.ensures in
    (subst (IsEdgeList (length g.ends)) c.as_slice-edges.ensures list, flaw.0, flaw.1)
