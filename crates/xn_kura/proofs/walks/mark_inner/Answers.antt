use Rattle.std.proofs.Common.{◌≡◌, ◌<◌, ◌≤◌, ◌∙◌, ◌+◌, ℕ, get_or, drop, List, [], ◌∷◌, ◌++◌, length, sym, subst, ap, arith, append_assoc, length-drop, length-take}
use Rattle.std.proofs.lemmas.List.{append-nil, get_or-take}
use Rattle.xn_model.specs.Evidence.{LeadsTo, far_end, inner_nodes}
use Rattle.xn_model.specs.Graph.{ends_at}
use Rattle.xn_kura.proofs.Marking.{MarksMore-one, StopsAt-met}
use Rattle.xn_kura.proofs.Walking.{far_end_in, inner_step, no_inner_left, step}
use Rattle.xn_kura.specs.Marks.{MarksMore}
use Rattle.xn_kura.proofs.walks.mark_inner.Goals as goal

pub returns-then-marks-at-clause-some : goal.returns-then-marks-at-clause-some
returns-then-marks-at-clause-some c =
    let ends = c.args.web.now.ends in
    let path = c.args.path.now in
    let k = c.loop-s.s-index in
    let w = c.far_node-at.result in
    let more : k + 1 < length path = omega (arith, c.loop-s-test.true, c.saturating_sub.ensures, length-take c.saturating_sub.result path) in
    let s_is = get_or-take c.saturating_sub.result path k 0 (omega (arith, more, c.saturating_sub.ensures)) in
    let w_is : far_end (ends_at ends (get_or path k 0)) c.loop-s.at ≡ w =
    sym (c.far_node-at.ensures ∙ ap (λ p. far_end p c.loop-s.at) (c.end.ensures.value ∙ ap (ends_at ends) s_is)) in
    let marked = c.loop-s.invariant.marked in
    StopsAt-met c.args.marks.now c.loop-s.marks (inner_nodes ends c.args.from path) marked.0 (inner_nodes ends w (drop (k + 1) path)) w marked.2 c.if-marks-at.true
    (marked.1 ∙ ap (λ xs. marked.0 ++ xs) (inner_step ends path k c.loop-s.at (omega (arith, more)) more ∙ ap (λ x. x ∷ inner_nodes ends x (drop (k + 1) path)) w_is))

pub loop-s-preserved : goal.loop-s-preserved
loop-s-preserved c =
    let ends = c.args.web.now.ends in
    let path = c.args.path.now in
    let k = c.loop-s.s-index in
    let w = c.far_node-at.result in
    let more : k + 1 < length path = omega (arith, c.loop-s-test.true, c.saturating_sub.ensures, length-take c.saturating_sub.result path) in
    let s_is = get_or-take c.saturating_sub.result path k 0 (omega (arith, more, c.saturating_sub.ensures)) in
    let w_is : far_end (ends_at ends (get_or path k 0)) c.loop-s.at ≡ w =
    sym (c.far_node-at.ensures ∙ ap (λ p. far_end p c.loop-s.at) (c.end.ensures.value ∙ ap (ends_at ends) s_is)) in
    let marked = c.loop-s.invariant.marked in
    let leads = c.loop-s.invariant.leads in
    let on = step ends path k c.loop-s.at (omega (arith, more)) leads.0 leads.1 in
    let P : ℕ → Type 0 = λ x. LeadsTo ends x (drop (k + 1) path) leads.0 in
    let nodes = c.end.ensures.nodes in
    let w_in : w < length c.loop-s.marks =
    omega (arith, c.loop-s.auto.marks, c.requires.sized, far_end_in c.args.web.now.nodes c.end.result c.loop-s.at nodes.0 nodes.1, c.far_node-at.ensures) in
    record {
      leads = (leads.0, subst P w_is on.2);
      marked = (
        marked.0 ++ w ∷ [],
        marked.1 ∙ ap (λ xs. marked.0 ++ xs) (inner_step ends path k c.loop-s.at (omega (arith, more)) more ∙ ap (λ x. x ∷ inner_nodes ends x (drop (k + 1) path)) w_is)
            ∙ sym (append_assoc marked.0 (w ∷ []) (inner_nodes ends w (drop (k + 1) path))),
        MarksMore-one c.args.marks.now c.loop-s.marks marked.0 w marked.2 c.if-marks-at.false w_in,
      );
    }

pub returns-clause-none : goal.returns-clause-none
returns-clause-none c =
    let ends = c.args.web.now.ends in
    let path = c.args.path.now in
    let k = c.loop-s.s-index in
    let marked = c.loop-s.invariant.marked in
    let few : length (drop k path) ≤ 1 = omega (arith, length-drop k path, c.loop-s-test.false, c.saturating_sub.ensures, length-take c.saturating_sub.result path) in
    let is : inner_nodes ends c.args.from path ≡ marked.0 = marked.1 ∙ ap (λ xs. marked.0 ++ xs) (no_inner_left ends c.loop-s.at (drop k path) few) ∙ append-nil marked.0 in
    let P : List ℕ → Type 0 = λ xs. MarksMore c.args.marks.now xs c.loop-s.marks in
    subst P (sym is) marked.2
