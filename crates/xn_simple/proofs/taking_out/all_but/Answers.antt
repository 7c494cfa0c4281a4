use Rattle.std.proofs.Common.{vec_items, refl, ◌∙◌, ap}
use Rattle.xn_simple.proofs.TakenOut.{but_more, but_same}
use Rattle.xn_simple.proofs.taking_out.all_but.Goals.{then-x-e+in_ok-push, else-x-e}
use Rattle.xn_simple.proofs.taking_out.all_but.Goals as goal

pub loop-x-preserved : goal.loop-x-preserved
loop-x-preserved c =
    let e = c.args.e in
    let xs = c.args.edges.now in
    let i = c.loop-x.x-index in
    elim c.if-x-e.branch [
      | then-x-e+in_ok-push w ↦
          ap vec_items w.rest-is ∙ w.in_ok-push.ensures.items ∙ but_more e _ c.loop-x.rest.items xs i c.loop-x-test.true refl w.if-x-e.true c.loop-x.invariant
      | else-x-e w ↦ ap vec_items w.rest-is ∙ but_same e _ c.loop-x.rest.items xs i c.loop-x-test.true refl w.if-x-e.false c.loop-x.invariant
    ]
