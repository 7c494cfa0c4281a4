use Rattle.std.proofs.Common.{◌<◌, ◌∙◌, ◌++◌, suc, take, drop, length, List, ℕ, sym, ap, subst, arith}
use Rattle.xn_model.specs.Evidence.{LeadsTo, all_inner, inner_nodes}
use Rattle.xn_kura.proofs.MarkedPaths.{inner_around, inner_more}
use Rattle.xn_kura.proofs.Marking.{MarksMore-trans, StopsAt-between}
use Rattle.xn_kura.proofs.UsedPaths.{lead_at}
use Rattle.xn_kura.specs.Flaws.{begins_at, goes_to}
use Rattle.xn_kura.specs.Marks.{MarksMore}
use Rattle.xn_kura.proofs.repeats.mark_inner_nodes.Goals as goal

pub mark_inner-requires-clause-leads : goal.mark_inner-requires-clause-leads
mark_inner-requires-clause-leads c =
    let ends = c.args.web.now.ends in
    let branch = c.args.branch.now in
    let pairs = c.args.pairs.now in
    let q = c.loop-q.q in
    let P : List ℕ → Type 0 = λ path. LeadsTo ends (begins_at pairs branch q) path (goes_to pairs branch q) in
    (goes_to pairs branch q, subst P (sym c.at.ensures) (lead_at ends branch pairs c.args.paths.now c.requires.lead q c.loop-q-test.true))

pub returns-in-Some-clause-some : goal.returns-in-Some-clause-some
returns-in-Some-clause-some c =
    let ends = c.args.web.now.ends in
    let branch = c.args.branch.now in
    let pairs = c.args.pairs.now in
    let paths = c.args.paths.now in
    let q = c.loop-q.q in
    let before = all_inner ends branch (take q pairs) (take q paths) in
    let after = all_inner ends branch (drop (suc q) pairs) (drop (suc q) paths) in
    let from = begins_at pairs branch q in
    let q_in : q < length paths = omega (arith, c.loop-q-test.true, c.requires.paths) in
    StopsAt-between c.args.marks.now c.loop-q.marks c.mark_inner.new.marks (all_inner ends branch pairs paths) before (inner_nodes ends from c.at.result.now) after c.in-Some.v
    (inner_around ends branch pairs paths q c.loop-q-test.true q_in ∙ ap (λ path. before ++ inner_nodes ends from path ++ after) (sym c.at.ensures))
    c.loop-q.invariant c.in-Some.ensures.some

pub loop-q-preserved : goal.loop-q-preserved
loop-q-preserved c =
    let ends = c.args.web.now.ends in
    let branch = c.args.branch.now in
    let pairs = c.args.pairs.now in
    let paths = c.args.paths.now in
    let q = c.loop-q.q in
    let before = all_inner ends branch (take q pairs) (take q paths) in
    let from = begins_at pairs branch q in
    let q_in : q < length paths = omega (arith, c.loop-q-test.true, c.requires.paths) in
    let P : List ℕ → Type 0 = λ xs. MarksMore c.args.marks.now xs c.mark_inner.new.marks in
    subst P (sym (inner_more ends branch pairs paths q c.loop-q-test.true q_in ∙ ap (λ path. before ++ inner_nodes ends from path) (sym c.at.ensures)))
    (MarksMore-trans c.args.marks.now c.loop-q.marks c.mark_inner.new.marks before (inner_nodes ends from c.at.result.now) c.loop-q.invariant c.in_default.ensures.none)
