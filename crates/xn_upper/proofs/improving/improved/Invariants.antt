use Rattle.xn_upper.specs.Upper.{IsWholeOf}
use Rattle.xn_upper.proofs.improving.improved.Given as goal

abbrev pub invariant-loop-crossings : goal.invariant-loop-crossings
invariant-loop-crossings l = IsWholeOf l.graph l.best

-- each round but the last one leaves fewer
abbrev pub decreases-loop-crossings : goal.decreases-loop-crossings
decreases-loop-crossings l = l.crossings
