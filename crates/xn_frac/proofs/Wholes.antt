-- Whole numbers as fractions.
use Rattle.std.proofs.Common.{◌≡◌, ℕ, ◌*◌, ◌/◌, ◌<◌, ◌^◌, arith, ap, ◌∙◌, subst, inl, inr}
use Rattle.std.specs.Prelude.{ℤ, pos, ◌+ℤ◌, ◌*ℤ◌, unsigned_abs}
use Rattle.std.specs.Int.{IsGcd, ◌∣◌}
use Rattle.std.proofs.Math.Nat.{one-dvd, dvd_refl, eq-one_of_dvd-one}
use Rattle.xn_frac.specs.Ratio.{whole, times, IsFrac, IsInRange, CanAdd, CanMul, IsRefused}
use Rattle.xn_frac.proofs.Gaps.{gaps, gap-same, by_gap}
use Rattle.xn_frac.proofs.Ratios.{one_form}

pub times_one : (z : ℤ) → z *ℤ pos 1 ≡ z
times_one z = by_gap (λ z. z *ℤ pos 1 ≡ z) (λ a b. simp gaps (gap-same _ _ _ _ (omega arith))) z

pub coprime_one : (m : ℕ) → IsGcd m 1 1
coprime_one m = (one-dvd m, dvd_refl 1, λ d in_m in_one. in_one)

pub whole_frac : (z : ℤ) → IsInRange z → IsFrac (whole z)
whole_frac z small = record { positive = omega arith; lowest = coprime_one (unsigned_abs z); num_in_range = small; den_in_range = omega arith }

not_sum : (m n : ℤ) → ¬ IsInRange (m +ℤ n) → ¬ CanAdd (whole m) (whole n)
not_sum m n large (g, is, fits) =
    let one : g ≡ 1 = eq-one_of_dvd-one is.0 in
    large (subst IsInRange (ap (λ (k : ℕ). m *ℤ pos (1 / k) +ℤ n *ℤ pos (1 / k)) one ∙ ap (λ t. t +ℤ n *ℤ pos 1) (times_one m) ∙ ap (λ t. m +ℤ t) (times_one n)) fits.num)

not_product : (m n : ℤ) → ¬ IsInRange (m *ℤ n) → ¬ CanMul (whole m) (whole n)
not_product m n large (r, is) =
    let one : (unsigned_abs r.num ≡ unsigned_abs (m *ℤ n)) × (r.den ≡ 1 * 1)
    = one_form r (times (whole m) (whole n)) is.frac.positive (omega arith) is.frac.lowest (coprime_one (unsigned_abs (m *ℤ n))) is.same in
    large (subst (λ k. k < 2 ^ 127) one.0 is.frac.num_in_range)

-- a sum or a product of whole numbers out of range is refused of fractions
pub sum_refused : (m n : ℤ) → ¬ IsInRange (m +ℤ n) → IsRefused (whole m) (whole n)
sum_refused m n large = ∣ inl (not_sum m n large) ∣₁

pub product_refused : (m n : ℤ) → ¬ IsInRange (m *ℤ n) → IsRefused (whole m) (whole n)
product_refused m n large = ∣ inr (inr (inl (not_product m n large))) ∣₁
