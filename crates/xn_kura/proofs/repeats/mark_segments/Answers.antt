use Rattle.std.proofs.Common.{◌<◌, ◌∙◌, ◌+◌, ◌++◌, take, drop, length, List, ℕ, sym, ap, subst, arith}
use Rattle.std.specs.List.{concat}
use Rattle.xn_model.specs.Lists.{has}
use Rattle.xn_kura.proofs.MarkedPaths.{All-from_has, concat_around, concat_more}
use Rattle.xn_kura.proofs.Marking.{MarksMore-trans, StopsAt-between}
use Rattle.xn_kura.proofs.UsedPaths.{has-concat}
use Rattle.xn_kura.specs.Marks.{MarksMore}
use Rattle.xn_kura.proofs.repeats.mark_segments.Goals as goal

pub mark-requires : goal.mark-requires
mark-requires c =
    let paths = c.args.paths.now in
    All-from_has (λ x. x < length c.loop-q.marks) c.at.result.now (λ x x_has.
    omega (arith, c.loop-q.auto.marks, c.requires.within x (has-concat paths c.loop-q.q x (ap (λ path. has path x) (sym c.at.ensures) ∙ x_has))))

pub returns-in-Some-clause-some : goal.returns-in-Some-clause-some
returns-in-Some-clause-some c =
    let paths = c.args.paths.now in
    let q = c.loop-q.q in
    let q_in : q < length paths = omega (arith, c.loop-q-test.true, c.len-q-end.ensures) in
    let before = concat (take q paths) in
    let after = concat (drop (q + 1) paths) in
    StopsAt-between c.args.marks.now c.loop-q.marks c.mark.new.marks (concat paths) before c.at.result.now after c.in-Some.s
    (concat_around paths q q_in ∙ ap (λ path. before ++ path ++ after) (sym c.at.ensures)) c.loop-q.invariant c.in-Some.ensures.some

pub loop-q-preserved : goal.loop-q-preserved
loop-q-preserved c =
    let paths = c.args.paths.now in
    let q = c.loop-q.q in
    let q_in : q < length paths = omega (arith, c.loop-q-test.true, c.len-q-end.ensures) in
    let before = concat (take q paths) in
    let P : List ℕ → Type 0 = λ xs. MarksMore c.args.marks.now xs c.mark.new.marks in
    subst P (sym (concat_more paths q q_in ∙ ap (λ path. before ++ path) (sym c.at.ensures)))
    (MarksMore-trans c.args.marks.now c.loop-q.marks c.mark.new.marks before c.at.result.now c.loop-q.invariant c.in_default.ensures.none)
