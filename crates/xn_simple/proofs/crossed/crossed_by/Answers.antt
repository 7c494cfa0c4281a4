use Rattle.std.proofs.Common.{sym, ◌∙◌, arith}
use Rattle.xn_model.specs.Lists.{at}
use Rattle.xn_simple.proofs.Steps.{crossed-no, crossed-yes}
use Rattle.xn_simple.proofs.crossed.crossed_by.Goals.{then-runs_straight+in_ok-push, else-runs_straight}
use Rattle.xn_simple.proofs.crossed.crossed_by.Goals as goal

pub loop-f-preserved : goal.loop-f-preserved
loop-f-preserved c =
    let next = at c.args.map.now.next in
    let list = c.args.list.now in
    let old = c.loop-f.invariant in
    record {
      place = omega (arith, old.place);
      crossed = elim c.if-runs_straight.branch [
        | then-runs_straight+in_ok-push w ↦
            rw (w.crossed-is, w.in_ok-push.ensures.items)
            (crossed-yes next c.loop-f.crossed.items list c.loop-f.s c.loop-f.f-index _ (omega arith) (sym c.runs_straight.ensures ∙ w.if-runs_straight.true) old.crossed)
        | else-runs_straight w ↦
            rw w.crossed-is
            (crossed-no next c.loop-f.crossed.items list c.loop-f.s c.loop-f.f-index _ (omega arith) (sym c.runs_straight.ensures ∙ w.if-runs_straight.false) old.crossed)
      ];
    }
