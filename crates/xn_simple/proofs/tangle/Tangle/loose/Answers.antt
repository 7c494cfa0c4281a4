use Rattle.std.proofs.Common.{List, ℕ, length, sym, ◌∙◌, ap, subst}
use Rattle.std.specs.List.{range_with_len}
use Rattle.std.proofs.lemmas.List.FromFn.{length-range_with_len}
use Rattle.xn_model.specs.Lists.{at}
use Rattle.xn_model.specs.Map.{IsMap}
use Rattle.xn_model.specs.Orders.{IsOrders, order_at}
use Rattle.xn_model.specs.Web.{web_of}
use Rattle.xn_map.specs.Listed.{map_of}
use Rattle.xn_insert.specs.Calls.{DrawsKept, IsStarted}
use Rattle.xn_simple.specs.Tangle.{lists_in}
use Rattle.xn_simple.proofs.LaidOut.{draws_kept, laid_out, next_fits, next_turns, own_orders}
use Rattle.xn_simple.proofs.tangle.Tangle.loose.Goals as goal

pub read-requires : goal.read-requires
read-requires c =
    let numbers = c.deref.ensures.value ∙ c.in_ok-numbers.ensures ∙ ap (range_with_len 0) c.edges.ensures.value in
    (c.args.graph.now, c.requires, ap length numbers ∙ length-range_with_len 0 (length c.args.graph.now.ends))

pub planarise-requires-clause-orders : goal.planarise-requires-clause-orders
planarise-requires-clause-orders c =
    let g = c.args.graph.now in
    let numbers = c.deref.ensures.value ∙ c.in_ok-numbers.ensures ∙ ap (range_with_len 0) c.edges.ensures.value in
    let d = c.in_ok-drawing.drawing in
    subst (λ (es : List ℕ). IsOrders g.ends es (order_at es d.orders)) (sym c.as_slice-edges.ensures.value) (own_orders g (lists_in c.args.self.now) c.requires c.deref.result.now numbers d c.in_ok-drawing.ensures)

pub map_turned-requires-clause-size : goal.map_turned-requires-clause-size
map_turned-requires-clause-size c =
    let g = c.args.graph.now in
    let numbers = c.deref.ensures.value ∙ c.in_ok-numbers.ensures ∙ ap (range_with_len 0) c.edges.ensures.value in
    let d = c.in_ok-drawing.drawing in
    let web = c.in_ok-web.ensures.web ∙ ap (λ (es : List ℕ). web_of g es (order_at es d.orders)) c.as_slice-edges.ensures.value in
    ap length c.as_slice.ensures ∙ next_fits g (lists_in c.args.self.now) c.requires c.deref.result.now numbers d c.in_ok-drawing.ensures c.in_ok-web.web web

pub map_turned-requires-clause-is_map : goal.map_turned-requires-clause-is_map
map_turned-requires-clause-is_map c =
    let g = c.args.graph.now in
    let numbers = c.deref.ensures.value ∙ c.in_ok-numbers.ensures ∙ ap (range_with_len 0) c.edges.ensures.value in
    let d = c.in_ok-drawing.drawing in
    let web = c.in_ok-web.ensures.web ∙ ap (λ (es : List ℕ). web_of g es (order_at es d.orders)) c.as_slice-edges.ensures.value in
    subst (λ (ns : List ℕ). IsMap c.in_ok-web.web.nodes c.in_ok-web.web.ends (at ns)) (sym c.as_slice.ensures)
    (next_turns g (lists_in c.args.self.now) c.requires c.deref.result.now numbers d c.in_ok-drawing.ensures c.in_ok-web.web web)

pub start-requires-clause-drawn : goal.start-requires-clause-drawn
start-requires-clause-drawn c =
    let g = c.args.graph.now in
    let numbers = c.deref.ensures.value ∙ c.in_ok-numbers.ensures ∙ ap (range_with_len 0) c.edges.ensures.value in
    let d = c.in_ok-drawing.drawing in
    let web = c.in_ok-web.ensures.web ∙ ap (λ (es : List ℕ). web_of g es (order_at es d.orders)) c.as_slice-edges.ensures.value in
    let map = c.in_ok-map.ensures ∙ ap (map_of c.in_ok-web.web) c.as_slice.ensures in
    subst (λ (es : List ℕ). DrawsKept g es d.orders c.in_ok-map.map) (sym c.as_slice-edges.ensures.value)
    (draws_kept g (lists_in c.args.self.now) c.requires c.deref.result.now numbers d c.in_ok-drawing.ensures c.in_ok-web.web c.in_ok-map.map web map)

pub returns : goal.returns
returns c =
    let g = c.args.graph.now in
    let numbers = c.deref.ensures.value ∙ c.in_ok-numbers.ensures ∙ ap (range_with_len 0) c.edges.ensures.value in
    let d = c.in_ok-drawing.drawing in
    let web = c.in_ok-web.ensures.web ∙ ap (λ (es : List ℕ). web_of g es (order_at es d.orders)) c.as_slice-edges.ensures.value in
    let map = c.in_ok-map.ensures ∙ ap (map_of c.in_ok-web.web) c.as_slice.ensures in
    laid_out g (lists_in c.args.self.now) c.requires c.deref.result.now numbers d c.in_ok-drawing.ensures c.in_ok-web.web c.in_ok-map.map c.in_ok-loose.loose c.edges.ensures.limited.few_edges web map
    (subst (λ (es : List ℕ). IsStarted g es c.in_ok-map.map c.in_ok-loose.loose) c.as_slice-edges.ensures.value c.in_ok-loose.ensures)
