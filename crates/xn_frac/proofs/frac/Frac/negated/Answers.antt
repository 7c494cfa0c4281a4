use Rattle.xn_frac.proofs.Signs.{back_neg}
use Rattle.xn_frac.proofs.Products.{negated_frac}
use Rattle.xn_frac.proofs.frac.Frac.negated.Goals as goal

pub invariant_of-result : goal.invariant_of-result
invariant_of-result c = rw (back_neg c.self.inside.num c.self.invariant.num_in_range) (negated_frac _ c.self.invariant)
