use Rattle.std.proofs.Common.{◌≡◌, ◌<◌, ◌∙◌, ◌++◌, take, length, List, ℕ, sym, ap, subst, arith}
use Rattle.std.proofs.lemmas.List.{take_all}
use Rattle.xn_model.specs.Evidence.{LeadsTo, all_inner, inner_nodes}
use Rattle.xn_kura.proofs.Branches.{branches_distinct}
use Rattle.xn_kura.proofs.MarkedPaths.{inner_more, marks_all, marks_on, shown_by_marks}
use Rattle.xn_kura.proofs.Marking.{Clears-trans, unmarked}
use Rattle.xn_kura.proofs.UsedPaths.{lead_at}
use Rattle.xn_kura.specs.Flaws.{begins_at, goes_to}
use Rattle.xn_kura.specs.Marks.{Clears}
use Rattle.xn_kura.proofs.repeats.repeated_node.Goals as goal

pub clear_inner-requires-clause-leads : goal.clear_inner-requires-clause-leads
clear_inner-requires-clause-leads c =
    let ends = c.args.web.now.ends in
    let branch = c.args.branch.now in
    let pairs = c.args.pairs.now in
    let q = c.loop-q.q in
    let P : List ℕ → Type 0 = λ path. LeadsTo ends (begins_at pairs branch q) path (goes_to pairs branch q) in
    (goes_to pairs branch q, subst P (sym c.at.ensures) (lead_at ends branch pairs c.args.paths.now c.requires.lead q c.loop-q-test.true))

pub loop-q-preserved : goal.loop-q-preserved
loop-q-preserved c =
    let ends = c.args.web.now.ends in
    let branch = c.args.branch.now in
    let pairs = c.args.pairs.now in
    let paths = c.args.paths.now in
    let q = c.loop-q.q in
    let before = all_inner ends branch (take q pairs) (take q paths) in
    let from = begins_at pairs branch q in
    let q_in : q < length paths = omega (arith, c.loop-q-test.true, c.requires.paths) in
    let start = c.clear.new.marks in
    let P : List ℕ → Type 0 = λ xs. Clears start xs c.clear_inner.new.marks in
    subst P (sym (inner_more ends branch pairs paths q c.loop-q-test.true q_in ∙ ap (λ path. before ++ inner_nodes ends from path) (sym c.at.ensures)))
    (Clears-trans start c.loop-q.marks c.clear_inner.new.marks before (inner_nodes ends from c.at.result.now) c.loop-q.invariant c.clear_inner.ensures)

pub returns : goal.returns
returns c =
    let ends = c.args.web.now.ends in
    let branch = c.args.branch.now in
    let pairs = c.args.pairs.now in
    let paths = c.args.paths.now in
    let inner = all_inner ends branch pairs paths in
    let old = c.args.marks.now in
    let b = c.mark in
    let m = c.mark_inner_nodes-found in
    let branched = marks_all old b.new.marks branch b.result c.requires.ready (branches_distinct c.args.web.now.nodes branch c.requires.branches) b.ensures.none b.ensures.some in
    let on = marks_on old b.new.marks m.new.marks branch inner m.result branched m.ensures.none m.ensures.some in
    let shown = shown_by_marks old m.new.marks (branch ++ inner) m.result c.requires.ready on.0 on.1 in
    let q = c.loop-q.q in
    let all_pairs : take q pairs ≡ pairs = take_all q pairs (omega (arith, c.loop-q-test.false)) in
    let all_paths : take q paths ≡ paths = take_all q paths (omega (arith, c.loop-q-test.false, c.requires.paths)) in
    let P : List ℕ → Type 0 = λ xs. Clears c.clear.new.marks xs c.loop-q.marks in
    let cleared = subst P (ap (λ ps. all_inner ends branch ps (take q paths)) all_pairs ∙ ap (all_inner ends branch pairs) all_paths) c.loop-q.invariant in
    record {
      none = shown.0;
      some = shown.1;
      ready = unmarked m.new.marks c.loop-q.marks (branch ++ inner) shown.2 (Clears-trans m.new.marks c.clear.new.marks c.loop-q.marks branch inner c.clear.ensures cleared);
    }
