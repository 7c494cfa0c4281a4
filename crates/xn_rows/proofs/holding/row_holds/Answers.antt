use Rattle.std.proofs.Common.{ap, sym, ◌∙◌, subst}
use Rattle.xn_model.specs.Graph.{Graph, HasNoLoop}
use Rattle.xn_model.specs.Orders.{order_at}
use Rattle.xn_model.specs.Web.{web_of}
use Rattle.xn_kinds.specs.Row.{orders_of}
use Rattle.xn_orders.proofs.LoopFree.{no_loop}
use Rattle.xn_rows.proofs.holding.row_holds.Goals as goal

pub check_evidence-requires-clause-no_loop : goal.check_evidence-requires-clause-no_loop
check_evidence-requires-clause-no_loop c =
    let g = c.args.graph.now in
    let row = c.args.row.now in
    let web = c.in_ok-web.ensures.web ∙ ap (λ es. web_of g es (order_at es row.orders)) c.as_slice.ensures in
    let P : Graph → Type 0 = λ w. HasNoLoop w.ends in
    subst P (sym web) (no_loop g row.edges (orders_of row) c.check_orders.ensures.graph c.in_ok-check_orders.ensures.orders)
