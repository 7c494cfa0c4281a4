use Rattle.std.proofs.Common.{ℕ, List, [], ◌∷◌, ◌++◌, sym, ◌∙◌, ap}
use Rattle.xn_map.specs.Marks.{is_marked}
use Rattle.xn_upper.proofs.Bare.{filter_no, filter_yes}
use Rattle.xn_upper.proofs.flat_starts.marked.Goals.{then-marks-e+in_ok-push, else-marks-e}
use Rattle.xn_upper.proofs.flat_starts.marked.Goals as goal

pub loop-e-preserved : goal.loop-e-preserved
loop-e-preserved c =
    let e = c.loop-e.e in
    let t = is_marked c.args.marks.now in
    elim c.if-marks-e.branch [
      | then-marks-e+in_ok-push w ↦
          rw (w.edges-is, w.in_ok-push.ensures.items) (ap (λ (l : List ℕ). l ++ e ∷ []) c.loop-e.invariant ∙ sym (filter_yes t e w.if-marks-e.true))
      | else-marks-e w ↦ rw w.edges-is (c.loop-e.invariant ∙ sym (filter_no t e w.if-marks-e.false))
    ]
