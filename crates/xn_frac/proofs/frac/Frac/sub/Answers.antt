use Rattle.std.proofs.Common.{inl, inr, refl}
use Rattle.xn_frac.proofs.frac.Frac.sub.Goals as goal

pub invariant_of-result : goal.invariant_of-result
invariant_of-result c = record { refused = ∣ inr (inl (rw c.negated.ensures at c.in-Err.ensures.err.0)) ∣₁ }

pub returns-in-Ok-clause-fits : goal.returns-in-Ok-clause-fits
returns-in-Ok-clause-fits c = rw c.negated.ensures at c.in-Ok.ensures.fits

pub returns-in-Err-clause-err : goal.returns-in-Err-clause-err
returns-in-Err-clause-err c = (rw c.negated.ensures at c.in-Err.ensures.err.0, refl, refl)
