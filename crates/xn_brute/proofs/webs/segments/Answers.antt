use Rattle.std.proofs.Common.{◌+◌, ◌++◌, drop, get_or, ap, sym, ◌∙◌, append_assoc, arith}
use Rattle.std.specs.List.{flat_map}
use Rattle.xn_model.specs.Drawing.{order_of}
use Rattle.xn_model.specs.Web.{segments_of}
use Rattle.xn_brute.specs.Drawings.{through}
use Rattle.xn_brute.proofs.OrdersAt.{edge_at, flat_map-drop}
use Rattle.xn_brute.proofs.webs.segments.Goals as goal

pub order-requires-clause-edge : goal.order-requires-clause-edge
order-requires-clause-edge c = edge_at c.args.graph.now c.args.edges.now c.loop-e.e-index c.requires.edges c.loop-e-test.true

pub push_segments-requires-clause-e_in : goal.push_segments-requires-clause-e_in
push_segments-requires-clause-e_in c = edge_at c.args.graph.now c.args.edges.now c.loop-e.e-index c.requires.edges c.loop-e-test.true

pub loop-e-preserved : goal.loop-e-preserved
loop-e-preserved c =
    let g = c.args.graph.now in
    let pairs = c.args.pairs.now in
    let edges = c.args.edges.now in
    let i = c.loop-e.e-index in
    let e = get_or edges i 0 in
    let f = segments_of g pairs (order_of g c.args.orders.now) in
    let old = c.loop-e.ends.items in
    let rest = flat_map f (drop (i + 1) edges) in
    let after = c.in_ok-push_segments.ensures.segments ∙ ap (λ l. old ++ through g pairs e l) c.order.ensures.list in
    record {
      few = omega (arith, c.in_ok-push_segments.ensures.few, c.order.ensures.short, c.loop-e.invariant.few);
      segments = ap (λ l. l ++ rest) after ∙ append_assoc old (f e) rest ∙ ap (λ l. old ++ l) (sym (flat_map-drop f edges i c.loop-e-test.true)) ∙ c.loop-e.invariant.segments;
    }
