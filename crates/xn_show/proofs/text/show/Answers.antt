use Rattle.std.proofs.Common.{◌∙◌, ap, length, sym}
use Rattle.xn_model.specs.Drawing.{order_of}
use Rattle.xn_model.specs.Graph.{edges_of}
use Rattle.xn_model.specs.Orders.{crossings_of}
use Rattle.xn_show.proofs.Owners.{length-segment_edges}
use Rattle.xn_show.proofs.text.show.Goals as goal

pub put_segments-requires : goal.put_segments-requires
put_segments-requires c =
    let g = c.args.graph.now in
    let ord = order_of g c.args.drawing.now.orders in
    ap length (c.deref.ensures.value ∙ c.in_ok-of.ensures) ∙ length-segment_edges g (crossings_of (edges_of g) ord) ord (edges_of g) ∙ sym (ap (λ web. length web.ends) c.in_ok-web.ensures)
