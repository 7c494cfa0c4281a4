use Rattle.std.proofs.Common.{sym, subst}
use Rattle.xn_upper.specs.Upper.{IsWholeOf}
use Rattle.xn_upper.proofs.improving.each_again.Goals.{then-left-gt0+then-segments_along-gt1+in_ok-now, else-left-gt0}
use Rattle.xn_upper.proofs.improving.each_again.Goals as goal

pub loop-e-preserved : goal.loop-e-preserved
loop-e-preserved c = elim c.if-left-gt0.branch [
  | then-left-gt0+then-segments_along-gt1+in_ok-now w ↦ subst (IsWholeOf c.args.graph.now) (sym w.now-is) w.in_ok-now.ensures
  | else-left-gt0 w ↦ subst (IsWholeOf c.args.graph.now) (sym w.now-is) c.loop-e.invariant
]
