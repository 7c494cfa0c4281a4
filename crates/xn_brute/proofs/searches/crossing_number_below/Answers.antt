use Rattle.std.proofs.Common.{arith}
use Rattle.xn_brute.proofs.searches.crossing_number_below.Goals as goal

pub returns : goal.returns
returns c = λ n drawing. omega (arith, c.loop-k.invariant n drawing, c.loop-k-test.false)
