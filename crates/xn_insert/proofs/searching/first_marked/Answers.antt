use Rattle.std.proofs.Common.{◌∙◌, ap}
use Rattle.std.proofs.lemmas.List.{take_all}
use Rattle.xn_model.specs.Lists.{at, has}
use Rattle.xn_model.proofs.Has.{has-at}
use Rattle.xn_insert.proofs.Fronts.{none_more}
use Rattle.xn_insert.proofs.Rounds.{not_listed}
use Rattle.xn_insert.proofs.searching.first_marked.Goals as goal

pub loop-x-init : goal.loop-x-init
loop-x-init c = λ y h. absurd (not_listed y h)

pub bounds-marks-x : goal.bounds-marks-x
bounds-marks-x c =
    let front = c.args.front.now in
    let i = c.loop-x.x-index in
    c.requires (at front i) (has-at front i c.loop-x-test.true)

pub returns-then-marks-x : goal.returns-then-marks-x
returns-then-marks-x c =
    let front = c.args.front.now in
    let i = c.loop-x.x-index in
    (has-at front i c.loop-x-test.true, c.if-marks-x.true)

pub loop-x-preserved : goal.loop-x-preserved
loop-x-preserved c = none_more c.args.marks.now c.args.front.now c.loop-x.x-index c.loop-x-test.true c.loop-x.invariant c.if-marks-x.false

pub returns : goal.returns
returns c = λ y h.
    let front = c.args.front.now in
    c.loop-x.invariant y (ap (λ l. has l y) (take_all c.loop-x.x-index front c.loop-x-test.false) ∙ h)
