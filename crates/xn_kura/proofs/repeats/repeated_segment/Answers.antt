use Rattle.std.proofs.Common.{◌≡◌, ◌<◌, ◌∙◌, ◌++◌, take, length, List, ℕ, sym, ap, subst, arith}
use Rattle.std.specs.List.{concat}
use Rattle.std.proofs.lemmas.List.{take_all}
use Rattle.xn_model.specs.Lists.{has}
use Rattle.xn_kura.proofs.MarkedPaths.{All-from_has, concat_more, shown_by_marks}
use Rattle.xn_kura.proofs.Marking.{Clears-trans, unmarked}
use Rattle.xn_kura.proofs.UsedPaths.{has-concat}
use Rattle.xn_kura.specs.Marks.{Clears}
use Rattle.xn_kura.proofs.repeats.repeated_segment.Goals as goal

pub clear-requires : goal.clear-requires
clear-requires c =
    let paths = c.args.paths.now in
    All-from_has (λ x. x < length c.loop-q.marks) c.at.result.now (λ x x_has.
    omega (
      arith,
      c.loop-q.auto.marks,
      c.mark_segments-found.auto.marks,
      c.requires.within x (has-concat paths c.loop-q.q x (ap (λ path. has path x) (sym c.at.ensures) ∙ x_has)),
    ))

pub loop-q-preserved : goal.loop-q-preserved
loop-q-preserved c =
    let paths = c.args.paths.now in
    let q = c.loop-q.q in
    let q_in : q < length paths = omega (arith, c.loop-q-test.true, c.len-q-end.ensures) in
    let before = concat (take q paths) in
    let marked = c.mark_segments-found.new.marks in
    let P : List ℕ → Type 0 = λ xs. Clears marked xs c.clear.new.marks in
    subst P (sym (concat_more paths q q_in ∙ ap (λ path. before ++ path) (sym c.at.ensures)))
    (Clears-trans marked c.loop-q.marks c.clear.new.marks before c.at.result.now c.loop-q.invariant c.clear.ensures)

pub returns-clause-none : goal.returns-clause-none
returns-clause-none c =
    let m = c.mark_segments-found in
    (shown_by_marks c.args.marks.now m.new.marks (concat c.args.paths.now) m.result c.requires.ready m.ensures.none m.ensures.some).0

pub returns-clause-some : goal.returns-clause-some
returns-clause-some c =
    let m = c.mark_segments-found in
    (shown_by_marks c.args.marks.now m.new.marks (concat c.args.paths.now) m.result c.requires.ready m.ensures.none m.ensures.some).1

pub returns-clause-ready : goal.returns-clause-ready
returns-clause-ready c =
    let paths = c.args.paths.now in
    let m = c.mark_segments-found in
    let within = (shown_by_marks c.args.marks.now m.new.marks (concat paths) m.result c.requires.ready m.ensures.none m.ensures.some).2 in
    let all : take c.loop-q.q paths ≡ paths = take_all c.loop-q.q paths (omega (arith, c.loop-q-test.false, c.len-q-end.ensures)) in
    let P : List (List ℕ) → Type 0 = λ ps. Clears m.new.marks (concat ps) c.loop-q.marks in
    unmarked m.new.marks c.loop-q.marks (concat paths) within (subst P all c.loop-q.invariant)
