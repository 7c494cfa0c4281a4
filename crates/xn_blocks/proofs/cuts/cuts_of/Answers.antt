use Rattle.std.proofs.lemmas.Bool.{both_ways}
use Rattle.xn_model.specs.Cycles.{IsCut}
use Rattle.xn_blocks.proofs.CutNodes.{lists_no, lists_yes}
use Rattle.xn_blocks.proofs.cuts.cuts_of.Goals.{then-is_cut+in_ok-push, else-is_cut}
use Rattle.xn_blocks.proofs.cuts.cuts_of.Goals as goal

pub loop-v-preserved : goal.loop-v-preserved
loop-v-preserved c =
    let web = c.args.stars.now in
    let v = c.loop-v.v in
    let list = c.loop-v.cuts.items in
    elim c.if-is_cut.branch [
      | then-is_cut+in_ok-push w ↦
          rw (w.cuts-is, w.in_ok-push.ensures.items) (lists_yes (IsCut web.ends) v list c.loop-v.invariant (c.is_cut.ensures.0 w.if-is_cut.true))
      | else-is_cut w ↦
          rw w.cuts-is (lists_no (IsCut web.ends) v list c.loop-v.invariant (λ cut. both_ways _ w.if-is_cut.false (c.is_cut.ensures.1 cut)))
    ]
