-- How many numbers below a bound pass a test.
use Rattle.std.proofs.Common.{◌≡◌, ℕ, zero, suc, ◌+◌, ◌≤◌, Bool, true, false, not, refl, arith}
use Rattle.xn_model.specs.Lists.{one_if}
use Rattle.xn_model.specs.Permutation.{count_below}
use Rattle.xn_model.proofs.Tests.{one_if-le}

pub count_below-le : (n : ℕ) (p : ℕ → Bool) → count_below n p ≤ n
count_below-le zero p = omega arith
count_below-le (suc n) p = omega (arith, count_below-le n p, one_if-le (p n))

-- what passes and what does not
pub count-not : (n : ℕ) (p : ℕ → Bool) → count_below n p + count_below n (λ x. not (p x)) ≡ n
count-not zero p = refl
count-not (suc n) p =
    let top : one_if (p n) + one_if (not (p n)) ≡ 1 = elim (p n) as (λ b. one_if b + one_if (not b) ≡ 1) [ true ↦ refl | false ↦ refl ] in
    omega (arith, count-not n p, top)
