use Rattle.std.proofs.Common.{inr}
use Rattle.std.proofs.lemmas.Nat.Gcd.{IsGcd-from_mod}
use Rattle.xn_frac.proofs.Halving.{gcd_one}
use Rattle.xn_frac.proofs.short.gcd_below.Goals as goal

pub returns-then-b-eq1 : goal.returns-then-b-eq1
returns-then-b-eq1 c = gcd_one _ _ (inr c.if-b-eq1.true)

pub returns-else-b-eq1 : goal.returns-else-b-eq1
returns-else-b-eq1 c = IsGcd-from_mod _ _ _ c.short_gcd.ensures
