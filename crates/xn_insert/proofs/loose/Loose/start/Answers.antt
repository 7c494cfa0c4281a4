use Rattle.std.proofs.Common.{length, sym, subst, ap, arith}
use Rattle.xn_list.specs.Lists.{lists_of}
use Rattle.xn_insert.specs.Calls.{IsStarted}
use Rattle.xn_insert.specs.ListedLoose.{loose_of}
use Rattle.xn_insert.proofs.Started.{started}
use Rattle.xn_insert.proofs.loose.Loose.start.Goals as goal

pub returns : goal.returns
returns c =
    let g = c.args.graph.now in
    let kept = c.args.kept.now in
    let map = c.args.map in
    let made = started g kept c.args.orders.now map (lists_of c.in_ok-walks_in_web.field-0.items) c.nodes.ensures.limited.is_graph c.requires.kept c.requires.drawn c.in_ok-walks_in_web.ensures in
    subst (λ k. IsStarted g kept map (loose_of k map c.new-walks.result)) (sym c.nodes.ensures.value)
    (subst (λ walks. IsStarted g kept map (loose_of g.nodes map walks)) (sym c.new-walks.ensures) made)

pub invariant_of-result : goal.invariant_of-result
invariant_of-result c = (
  omega (arith, c.nodes.ensures.value, ap (λ w. w.nodes) c.requires.drawn.web),
  omega (arith, ap length c.new-walks.ensures, c.in_ok-walks_in_web.ensures.size, c.nodes.ensures.limited.few_edges),
)
