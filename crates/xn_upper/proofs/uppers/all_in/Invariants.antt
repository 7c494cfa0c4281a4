use Rattle.xn_upper.proofs.Whole.{AreIn}
use Rattle.xn_upper.proofs.uppers.all_in.Given as goal

-- the first edges of the order are in
abbrev pub invariant-loop-e : goal.invariant-loop-e
invariant-loop-e l = AreIn l.graph l.order l.e-index l.loose
