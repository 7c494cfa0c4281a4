use Rattle.xn_model.specs.Drawing.{IsAtLeast}
use Rattle.xn_brute.proofs.searches.crossing_number_below.Given as goal

-- no drawing has fewer crossings
abbrev pub invariant-loop-k : goal.invariant-loop-k
invariant-loop-k l = IsAtLeast l.graph l.k
