use Rattle.std.proofs.Common.{◌≡◌, length, refl, sym, ◌∙◌, ap, ap₂, subst}
use Rattle.std.proofs.lemmas.List.FromFn.{length-range_with_len}
use Rattle.xn_model.specs.Drawing.{drawn_web}
use Rattle.xn_model.specs.Graph.{edges_of}
use Rattle.xn_model.specs.Orders.{IsEdgeList, IsOrders, order_at}
use Rattle.xn_model.specs.Web.{web_of}
use Rattle.xn_model.proofs.Ranges.{edge_list}
use Rattle.xn_map.specs.Listed.{map_of}
use Rattle.xn_insert.specs.Calls.{DrawsKept}
use Rattle.xn_simple.proofs.tests.simplified.Goals as goal

pub planarise-requires-clause-lists : goal.planarise-requires-clause-lists
planarise-requires-clause-lists c =
    let g = c.in_ok-graph.graph in
    let d = c.in_ok-examine.ensures.ok.0 in
    d.lists_fit ∙ sym (ap length (c.deref.ensures.value ∙ c.in_ok-edges.ensures) ∙ length-range_with_len 0 (length g.ends))

pub planarise-requires-clause-orders : goal.planarise-requires-clause-orders
planarise-requires-clause-orders c =
    let g = c.in_ok-graph.graph in
    let lists = c.in_ok-orders.orders in
    let d = c.in_ok-examine.ensures.ok.0 in
    subst (λ es. IsOrders g.ends es (order_at es lists)) (sym (c.deref.ensures.value ∙ c.in_ok-edges.ensures)) d.drawing.orders

pub start-requires-clause-kept : goal.start-requires-clause-kept
start-requires-clause-kept c =
    let g = c.in_ok-graph.graph in
    subst (IsEdgeList (length g.ends)) (sym (c.deref-2.ensures.value ∙ c.in_ok-edges.ensures)) (edge_list (length g.ends))

pub start-requires-clause-drawn : goal.start-requires-clause-drawn
start-requires-clause-drawn c =
    let g = c.in_ok-graph.graph in
    let lists = c.in_ok-orders.orders in
    let map = c.in_ok-map.map in
    let next = c.new-next.result in
    let d = c.in_ok-examine.ensures.ok.0 in
    let web = c.in_ok-web.ensures.web ∙ ap (λ es. web_of g es (order_at es lists)) (c.deref.ensures.value ∙ c.in_ok-edges.ensures) in
    let map_is : map ≡ map_of (drawn_web g lists) next = c.in_ok-map.ensures.ok ∙ ap₂ map_of web c.as_slice.ensures in
    let all : DrawsKept g (edges_of g) lists (map_of (drawn_web g lists) next) = record {
      fits = d.lists_fit ∙ sym (length-range_with_len 0 (length g.ends));
      web = refl;
      drawing = record { orders = d.drawing.orders; is_flat_map = d.drawing.is_flat_map; crosses = d.drawing.crosses };
    } in
    subst (λ es. DrawsKept g es lists map) (sym (c.deref-2.ensures.value ∙ c.in_ok-edges.ensures)) (subst (DrawsKept g (edges_of g) lists) (sym map_is) all)
