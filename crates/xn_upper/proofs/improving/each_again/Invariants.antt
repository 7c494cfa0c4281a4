use Rattle.xn_upper.specs.Upper.{IsWholeOf}
use Rattle.xn_upper.proofs.improving.each_again.Given as goal

abbrev pub invariant-loop-e : goal.invariant-loop-e
invariant-loop-e l = IsWholeOf l.graph l.now
