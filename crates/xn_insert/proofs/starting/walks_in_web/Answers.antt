use Rattle.std.proofs.Common.{◌+◌, ◌<◌, length, set, vec_items, sym, ◌∙◌, ap, subst, arith}
use Rattle.std.proofs.lemmas.List.{map-set}
use Rattle.xn_list.specs.Lists.{lists_of}
use Rattle.xn_model.specs.Lists.{at}
use Rattle.xn_model.specs.Orders.{order_at}
use Rattle.xn_orders.proofs.Listed.{order_at-place}
use Rattle.xn_insert.specs.Starting.{AreWalksUpTo}
use Rattle.xn_insert.proofs.Started.{few_segments, walks_more}
use Rattle.xn_insert.proofs.starting.walks_in_web.Goals as goal

pub overflow_cast-more : goal.overflow_cast-more
overflow_cast-more c =
    let kept = c.args.kept.now in
    let lists = c.args.orders.now in
    let i = c.loop-i.i in
    let low : i < length kept = omega arith in
    let more = ap length (c.at.ensures ∙ sym (order_at-place kept lists i 0 c.requires.orders.edge_list.rise c.requires.lists low)) in
    let few = few_segments c.args.graph.now kept (order_at kept lists) c.edges.ensures.limited c.requires.orders i low in
    omega (arith, few, more)

pub first_darts-requires : goal.first_darts-requires
first_darts-requires c =
    let kept = c.args.kept.now in
    let lists = c.args.orders.now in
    let i = c.loop-i.i in
    let low : i < length kept = omega arith in
    let more = ap length (c.at.ensures ∙ sym (order_at-place kept lists i 0 c.requires.orders.edge_list.rise c.requires.lists low)) in
    let few = few_segments c.args.graph.now kept (order_at kept lists) c.edges.ensures.limited c.requires.orders i low in
    omega (arith, few, more, c.loop-i.invariant.next)

pub overflow_add-first : goal.overflow_add-first
overflow_add-first c =
    let kept = c.args.kept.now in
    let lists = c.args.orders.now in
    let i = c.loop-i.i in
    let low : i < length kept = omega arith in
    let more = ap length (c.at.ensures ∙ sym (order_at-place kept lists i 0 c.requires.orders.edge_list.rise c.requires.lists low)) in
    let few = few_segments c.args.graph.now kept (order_at kept lists) c.edges.ensures.limited c.requires.orders i low in
    omega (arith, few, more)

pub overflow_add-first-in-loop-i : goal.overflow_add-first-in-loop-i
overflow_add-first-in-loop-i c =
    let kept = c.args.kept.now in
    let lists = c.args.orders.now in
    let i = c.loop-i.i in
    let low : i < length kept = omega arith in
    let more = ap length (c.at.ensures ∙ sym (order_at-place kept lists i 0 c.requires.orders.edge_list.rise c.requires.lists low)) in
    let few = few_segments c.args.graph.now kept (order_at kept lists) c.edges.ensures.limited c.requires.orders i low in
    omega (arith, few, more, c.loop-i.invariant.next)

pub loop-i-preserved : goal.loop-i-preserved
loop-i-preserved c =
    let g = c.args.graph.now in
    let kept = c.args.kept.now in
    let lists = c.args.orders.now in
    let ord = order_at kept lists in
    let i = c.loop-i.i in
    let first = c.loop-i.first in
    let low : i < length kept = omega arith in
    let more = ap length (c.at.ensures ∙ sym (order_at-place kept lists i 0 c.requires.orders.edge_list.rise c.requires.lists low)) in
    let k = length c.at.result.now in
    let is = map-set vec_items c.loop-i.walks.items (at kept i) c.in_ok-walks-2.field-0 ∙ ap (set (lists_of c.loop-i.walks.items) (at kept i)) c.in_ok-walks-2.ensures in
    subst (λ walks. AreWalksUpTo g kept ord (i + 1) (first + (k + 1)) walks) (sym is)
    (walks_more g kept ord c.edges.ensures.limited c.requires.orders i first k (lists_of c.loop-i.walks.items) c.loop-i.invariant low more)
