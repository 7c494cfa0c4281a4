use Rattle.xn_frac.proofs.Halving.{gcd_of_same}
use Rattle.xn_frac.proofs.whole.odd_gcd.Goals as goal

pub returns : goal.returns
returns c = c.loop-x.invariant.1 _ (gcd_of_same _ _ c.loop-x-test.false)
