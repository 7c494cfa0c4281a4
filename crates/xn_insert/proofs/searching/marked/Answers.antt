use Rattle.std.proofs.Common.{◌≡◌, ◌<◌, ℕ, true, length, sym, ◌∙◌, ap, subst, arith}
use Rattle.std.specs.Prelude.{◌↔◌}
use Rattle.xn_model.specs.Lists.{has}
use Rattle.xn_insert.specs.Search.{IsMarked}
use Rattle.xn_insert.proofs.Fronts.{lists_more, lists_same}
use Rattle.xn_insert.proofs.Rounds.{not_listed}
use Rattle.xn_insert.proofs.searching.marked.Goals.{then-marks-x+in_ok-push, else-marks-x}
use Rattle.xn_insert.proofs.searching.marked.Goals as goal

pub loop-x-init : goal.loop-x-init
loop-x-init c = λ y. ((λ h. absurd (not_listed y (sym (ap (λ l. has l y) c.new-front.ensures.items) ∙ h))), (λ f. let low = f.0 in absurd (omega (arith, low))))

pub loop-x-preserved : goal.loop-x-preserved
loop-x-preserved c =
    let marks = c.args.marks.now in
    let x = c.loop-x.x in
    let front = c.loop-x.front.items in
    elim c.if-marks-x.branch [
      | then-marks-x+in_ok-push w ↦ rw (w.front-is, w.in_ok-push.ensures.items) (lists_more marks front x c.loop-x.invariant w.if-marks-x.true)
      | else-marks-x w ↦ rw w.front-is (lists_same marks front x c.loop-x.invariant (λ met. let high = w.if-marks-x.false in omega (arith, met, high)))
    ]

pub returns : goal.returns
returns c =
    let marks = c.args.marks.now in
    let front = c.loop-x.front.items in
    let all : c.loop-x.x ≡ length marks = omega (arith, c.loop-x-test.false, c.loop-x.auto.x-end) in
    subst (λ k. (y : ℕ) → (has front y ≡ true) ↔ ((y < k) × IsMarked marks marks y)) all c.loop-x.invariant
