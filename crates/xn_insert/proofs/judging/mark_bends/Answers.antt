use Rattle.std.proofs.Common.{◌≡◌, suc, ◌+◌, ◌-◌, sym, ◌∙◌, ap, subst, arith}
use Rattle.xn_model.specs.Lists.{at}
use Rattle.xn_model.specs.Map.{reverse_of}
use Rattle.xn_insert.specs.Judged.{MarksBends}
use Rattle.xn_insert.proofs.JudgedSteps.{bends_more, bends_same}
use Rattle.xn_insert.proofs.judging.mark_bends.Goals.{then-next-e, else-next-e}
use Rattle.xn_insert.proofs.judging.mark_bends.Goals as goal

pub loop-i-preserved : goal.loop-i-preserved
loop-i-preserved c =
    let m = c.args.map.now in
    let walk = c.args.walk.now in
    let old = c.args.bends.now in
    let i = c.loop-i.i in
    let marks = c.loop-i.bends in
    let was = c.loop-i.invariant in
    let is : suc (i - 1) ≡ i = omega (arith, c.loop-i.auto.i) in
    let turned : c.next-in-loop-i.result ≡ at m.next (at m.next (reverse_of (at walk (i - 1)))) = c.next-in-loop-i.ensures.value ∙ ap (at m.next) c.next.ensures.value in
    elim c.if-next-e.branch [
      | then-next-e w ↦
          subst (MarksBends m walk (i + 1) old) (sym w.bends-is)
          (bends_more m walk (i - 1) i is c.loop-i-test.true old marks was w.tail.result w.tail.ensures.value w.tail.ensures.node (λ same. w.if-next-e.true (turned ∙ same)))
      | else-next-e w ↦
          subst (MarksBends m walk (i + 1) old) (sym w.bends-is)
          (bends_same m walk (i - 1) i is c.loop-i-test.true old marks was (sym turned ∙ w.if-next-e.false))
    ]
