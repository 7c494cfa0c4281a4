use Rattle.std.proofs.Common.{◌+◌, ℕ}
use Rattle.std.specs.Int.{IsGcd}
use Rattle.xn_frac.specs.Small.{AreOdd}
use Rattle.xn_frac.proofs.whole.odd_gcds.Given as goal

-- both pairs are odd and keep their greatest common divisors
pub record Kept (a b c d x y z w : ℕ) : Type 0 where
  pub first_odd : AreOdd x y
  pub second_odd : AreOdd z w
  pub first : (g : ℕ) → IsGcd x y g → IsGcd a b g
  pub second : (g : ℕ) → IsGcd z w g → IsGcd c d g

abbrev pub invariant-loop-x : goal.invariant-loop-x
invariant-loop-x l = Kept l.fn.a l.fn.b l.fn.c l.fn.d l.x l.y l.z l.w

abbrev pub decreases-loop-x : goal.decreases-loop-x
decreases-loop-x l = l.x + l.y + l.z + l.w
