use Rattle.std.proofs.Common.{◌∙◌}
use Rattle.xn_insert.proofs.JudgedSteps.{joined_more}
use Rattle.xn_insert.proofs.judging.all_darts.Goals as goal

pub loop-e-preserved : goal.loop-e-preserved
loop-e-preserved c =
    c.in_ok-extend_from_slice.ensures.items
    ∙ joined_more c.args.walks.now c.loop-e.darts.items c.at.result.now c.loop-e.e c.loop-e.invariant c.at.ensures
