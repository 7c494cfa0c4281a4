use Rattle.std.proofs.Common.{take, get_or, drop, set, true, ◌+◌, List, ℕ, sym, subst, arith}
use Rattle.std.proofs.lemmas.List.{take_more}
use Rattle.xn_kura.proofs.Marking.{MarksMore-none, MarksMore-one, StopsAt-met}
use Rattle.xn_kura.proofs.Walking.{around}
use Rattle.xn_kura.specs.Marks.{MarksMore}
use Rattle.xn_kura.proofs.marks.mark.Goals as goal

pub loop-x-init : goal.loop-x-init
loop-x-init c = MarksMore-none c.args.marks.now

pub loop-x-preserved : goal.loop-x-preserved
loop-x-preserved c =
    let i = c.loop-x.x-index in
    let list = c.args.list.now in
    let x = get_or list i 0 in
    let x_in = c.requires i 0 c.loop-x-test.true in
    let P : List ℕ → Type 0 = λ xs. MarksMore c.args.marks.now xs (set c.loop-x.marks x true) in
    subst P (sym (take_more list i 0 c.loop-x-test.true))
    (MarksMore-one c.args.marks.now c.loop-x.marks (take i list) x c.loop-x.invariant c.if-marks-x.false (omega (arith, x_in, c.loop-x.auto.marks)))

pub returns-then-marks-x-clause-some : goal.returns-then-marks-x-clause-some
returns-then-marks-x-clause-some c =
    let i = c.loop-x.x-index in
    let list = c.args.list.now in
    StopsAt-met c.args.marks.now c.loop-x.marks list (take i list) (drop (i + 1) list) (get_or list i 0) c.loop-x.invariant c.if-marks-x.true (around list i 0 c.loop-x-test.true)
