use Rattle.std.proofs.Common.{◌≡◌, false, refl, ap, sym, ◌∙◌, ◌+◌, List, ℕ, arith}
use Rattle.std.specs.List.{flat_map}
use Rattle.std.proofs.lemmas.Bool.{both_ways}
use Rattle.std.proofs.lemmas.Result.{IfOk-weaker}
use Rattle.xn_model.specs.Drawing.{order_of}
use Rattle.xn_model.specs.Lists.{at}
use Rattle.xn_model.specs.Web.{segments_of}
use Rattle.xn_brute.proofs.Drawn.{drawing_from_tests, flat_of_drawing, flat_same, test_from_crosses, test_from_orders, web_is}
use Rattle.xn_brute.proofs.drawings.is_drawing.Goals as goal

pub returns-then-not-are_orders : goal.returns-then-not-are_orders
returns-then-not-are_orders c = (
  λ no. absurd (both_ways false refl no),
  λ drawn. absurd (both_ways _ c.if-not-are_orders.true (c.are_orders.ensures.1 (test_from_orders c.args.graph.now c.args.drawing.now.orders drawn.drawing.orders))),
)

pub returns-then-not-all_cross : goal.returns-then-not-all_cross
returns-then-not-all_cross c = (
  λ no. absurd (both_ways false refl no),
  λ drawn. absurd (both_ways _ c.if-not-all_cross.true (c.all_cross.ensures.1 (test_from_crosses c.args.graph.now c.args.drawing.now.orders (at c.args.drawing.now.next) drawn.drawing.crosses))),
)

pub returns : goal.returns
returns c =
    let g = c.args.graph.now in
    let lists = c.args.drawing.now.orders in
    let ord = order_of g lists in
    let pairs = c.in_ok-pairs.pairs.items in
    let ends = c.in_ok-ends.ends.items in
    let n = c.nodes.result + c.len-2.result in
    let made : ends ≡ flat_map (segments_of g pairs ord) c.args.edges.now =
    c.in_ok-ends.ensures.segments ∙ ap (λ (ps : List (ℕ × ℕ)). flat_map (segments_of g ps ord) c.args.edges.now) c.deref.ensures.value in
    let web = web_is g ord c.args.edges.now pairs ends n c.requires.edges c.in_ok-pairs.ensures.pairs made (omega (arith, c.nodes.ensures.value, c.len-2.ensures)) in
    IfOk-weaker c.is_flat_map.result _ _ (λ yes ensures. (
      λ is. drawing_from_tests g lists c.args.drawing.now.next (omega (arith, c.if-len-edges.false)) (c.are_orders.ensures.0 c.if-not-are_orders.false) (c.all_cross.ensures.0 c.if-not-all_cross.false)
          (flat_same _ _ _ _ web c.as_slice.ensures (ensures.0 is)),
      λ drawn. ensures.1 (flat_same _ _ _ _ (sym web) (sym c.as_slice.ensures) (flat_of_drawing g lists c.args.drawing.now.next drawn)),
    )) c.is_flat_map.ensures
