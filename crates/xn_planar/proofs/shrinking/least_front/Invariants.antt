use Rattle.std.proofs.Common.{◌-◌}
use Rattle.xn_planar.proofs.Halving.{IsBetween}
use Rattle.xn_planar.proofs.shrinking.least_front.Given as goal

abbrev pub invariant-loop-low : goal.invariant-loop-low
invariant-loop-low l = IsBetween l.web l.kept l.most l.low l.high

abbrev pub decreases-loop-low : goal.decreases-loop-low
decreases-loop-low l = l.high - l.low
