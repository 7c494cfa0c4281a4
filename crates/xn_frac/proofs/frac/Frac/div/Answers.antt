use Rattle.std.proofs.Common.{inr}
use Rattle.xn_frac.proofs.frac.Frac.div.Goals as goal

pub invariant_of-result : goal.invariant_of-result
invariant_of-result c = record { refused = ∣ inr (inr (inr (c.requires, rw c.inverse.ensures at c.in-None.ensures.none))) ∣₁ }
