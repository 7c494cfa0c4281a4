use Rattle.std.proofs.Common.{◌≡◌, ℕ, List, length, sym, subst, ap, ◌∙◌, arith}
use Rattle.std.proofs.lemmas.List.FromFn.{length-range_with_len}
use Rattle.xn_model.specs.Graph.{Graph, edges_of}
use Rattle.xn_model.specs.Lists.{at}
use Rattle.xn_model.specs.Map.{IsFlat}
use Rattle.xn_model.specs.Orders.{IsOrders, order_at}
use Rattle.xn_model.specs.Web.{web_of}
use Rattle.xn_model.proofs.Ranges.{edge_list}
use Rattle.xn_simple.proofs.tests.untouched.Goals as goal

pub orders_flaw-requires-clause-edges : goal.orders_flaw-requires-clause-edges
orders_flaw-requires-clause-edges c = rw (c.deref.ensures.value, c.in_ok-edges.ensures) (edge_list (length c.in_ok-graph.graph.ends))

pub untouch-requires : goal.untouch-requires
untouch-requires c =
    let g = c.in_ok-graph.graph in
    let lists = c.in_ok-orders.orders in
    let map = c.in_ok-map-in-None.map in
    let free = rw c.in-None.is at c.in_ok-orders_flaw.ensures in
    let O : List ℕ → Type 0 = λ es. IsOrders g.ends es (order_at es lists) in
    let W : Graph → Type 0 = λ w. IsFlat w (at map.next) in
    let edges = c.deref.ensures.value ∙ c.in_ok-edges.ensures in
    let edges_again = c.deref-in-None.ensures.value ∙ c.in_ok-edges.ensures in
    let web = ap (λ m. m.web) c.in_ok-map-in-None.ensures.ok ∙ c.in_ok-web-in-None.ensures.web ∙ ap (λ es. web_of g es (order_at es lists)) edges_again in
    record {
      lists_fit = omega (arith, c.if-len.false, c.len.ensures, c.len-2.ensures, c.in_ok-edges.edges.ok.0, ap length c.in_ok-edges.ensures, length-range_with_len 0 (length g.ends));
      orders = subst O edges free;
      web = web;
      is_flat_map = subst W web (record { is_map = c.in_ok-map-in-None.ensures.is_map.is_map; flat = c.in_ok-is_flat-in-None.ensures.0 c.if-not-branch.false });
    }
