use Rattle.std.proofs.Common.{◌++◌, ◌∙◌, ap, sym, get_or, map, take, arith}
use Rattle.std.specs.List.{flat_map}
use Rattle.xn_model.specs.Graph.{ends_at}
use Rattle.xn_model.specs.Orders.{order_at}
use Rattle.xn_model.specs.Web.{crossing_node, segments_of, segments_through}
use Rattle.xn_orders.proofs.Listed.{flat_map-take_more, order_at-place}
use Rattle.xn_orders.proofs.Numbered.{all_numbered}
use Rattle.xn_orders.proofs.Rising.{crossings_rise}
use Rattle.xn_orders.proofs.planar.segments.Goals as goal

pub push_segments-requires-clause-rise : goal.push_segments-requires-clause-rise
push_segments-requires-clause-rise c =
    let edges = c.args.edges.now in
    let ord = order_at edges c.args.orders.now in
    rw c.requires.pairs (crossings_rise edges ord c.requires.orders.edge_list.rise)

pub push_segments-requires-clause-numbered : goal.push_segments-requires-clause-numbered
push_segments-requires-clause-numbered c =
    let edges = c.args.edges.now in
    let lists = c.args.orders.now in
    let ord = order_at edges lists in
    let i = c.loop-i.i in
    let e = get_or edges i 0 in
    let list = c.at.ensures ∙ sym (order_at-place edges lists i 0 c.requires.orders.edge_list.rise c.requires.lists (omega arith)) in
    rw (list, c.requires.pairs) (all_numbered c.args.graph.now.ends edges ord c.requires.orders e)

pub loop-i-preserved : goal.loop-i-preserved
loop-i-preserved c =
    let g = c.args.graph.now in
    let edges = c.args.edges.now in
    let lists = c.args.orders.now in
    let ord = order_at edges lists in
    let pairs = c.args.pairs.now in
    let i = c.loop-i.i in
    let e = get_or edges i 0 in
    let p = ends_at g.ends e in
    let list = c.at.ensures ∙ sym (order_at-place edges lists i 0 c.requires.orders.edge_list.rise c.requires.lists (omega arith)) in
    c.in_ok-push_segments.ensures
    ∙ ap (λ ss. ss ++ segments_through p.0 (map (crossing_node g.nodes pairs e) c.at.result.now) p.1) c.loop-i.invariant
    ∙ ap (λ l. flat_map (segments_of g pairs ord) (take i edges) ++ segments_through p.0 (map (crossing_node g.nodes pairs e) l) p.1) list
    ∙ sym (flat_map-take_more (segments_of g pairs ord) edges i 0 (omega arith))
