use Rattle.std.proofs.Common.{◌≡◌, length, sym, ap, ◌∙◌, arith}
use Rattle.std.specs.List.{range_with_len}
use Rattle.xn_model.specs.Graph.{edges_of}
use Rattle.xn_orders.specs.Entries.{list_of}
use Rattle.xn_orders.proofs.AllEdges.{order_of-same}
use Rattle.xn_show.specs.Text.{segment_edges}
use Rattle.xn_show.proofs.Owners.{edges_more}
use Rattle.xn_show.proofs.segments.segment_edges.Goals as goal

pub loop-e-preserved : goal.loop-e-preserved
loop-e-preserved c =
    edges_more (list_of c.args.orders.now) c.loop-e.e c.at-crossings.result.now c.loop-e.of.items c.push_times.new.of.items c.at-crossings.ensures c.loop-e.invariant c.in_ok-push_times.ensures

pub returns : goal.returns
returns c =
    let g = c.args.graph.now in
    let lists = c.args.orders.now in
    let end : c.loop-e.e ≡ length g.ends = omega (arith, c.loop-e-test.false, c.loop-e.auto.e-end, c.edges-e-end.ensures.value) in
    c.loop-e.invariant ∙ ap (λ n. segment_edges (range_with_len 0 n) (list_of lists)) end ∙ ap (segment_edges (edges_of g)) (sym (order_of-same g lists c.requires))
