-- A sum over the common part of two denominators is the sum.
use Rattle.std.proofs.Common.{◌≡◌, ℕ, ◌*◌, ◌/◌, ◌<◌, arith, ap, sym, ◌∙◌, subst}
use Rattle.std.specs.Prelude.{ℤ, pos, ◌+ℤ◌, ◌*ℤ◌}
use Rattle.std.specs.Int.{IsGcd, ◌∣◌, w128}
use Rattle.std.proofs.lemmas.Nat.Gcd.{same_from_IsGcd}
use Rattle.std.proofs.Math.Nat.{div-mul_cancel}
use Rattle.xn_frac.proofs.Signs.{back}
use Rattle.xn_frac.proofs.Lowest.{gcd_above, above_quotient}
use Rattle.xn_frac.proofs.Ratios.{IsFracOf-same, above_product}
use mir.Val.{to_z, of_z}
use Rattle.xn_frac.specs.Ratio.{Ratio, IsFrac, IsFracOf, Same, ratio_of, plus, sum_num, sum_den, SumFits, CanAdd}
use Rattle.xn_frac.proofs.Gaps.{gaps, gap-same, by_gap2}

over_common : (a c : ℤ) (x y g : ℕ) →
    (a *ℤ pos y +ℤ c *ℤ pos x) *ℤ pos ((x * g) * (y * g)) ≡ (a *ℤ pos (y * g) +ℤ c *ℤ pos (x * g)) *ℤ pos (x * (y * g))
over_common a c x y g = by_gap2
    (λ a c. (a *ℤ pos y +ℤ c *ℤ pos x) *ℤ pos ((x * g) * (y * g)) ≡ (a *ℤ pos (y * g) +ℤ c *ℤ pos (x * g)) *ℤ pos (x * (y * g)))
    (λ s t u v. simp gaps (gap-same _ _ _ _ (omega arith))) a c

sum_parts : (a c : ℤ) (b d x y g : ℕ) → b ≡ x * g → d ≡ y * g →
    (a *ℤ pos y +ℤ c *ℤ pos x) *ℤ pos (b * d) ≡ (a *ℤ pos d +ℤ c *ℤ pos b) *ℤ pos (x * d)
sum_parts a c b d x y g e f = rw (e, f) (over_common a c x y g)

pub sum_same : (p q : Ratio) (g : ℕ) → g ∣ p.den → g ∣ q.den →
    Same (ratio_of (sum_num p q g) (pos (sum_den p q g))) (plus p q)
sum_same p q g in_p in_q =
    sum_parts p.num q.num p.den q.den (p.den / g) (q.den / g) g (sym (div-mul_cancel g in_p)) (sym (div-mul_cancel g in_q))

-- a sum that does not fit over the greatest common part does not fit
pub not_sum : (p q : Ratio) (g : ℕ) → IsGcd p.den q.den g → ¬ SumFits p q g → ¬ CanAdd p q
not_sum p q g is fails (k, is_k, fits) = fails (subst (SumFits p q) (same_from_IsGcd p.den q.den k g is_k is) fits)

pub sum_above : (p q : Ratio) (g : ℕ) → IsFrac p → IsFrac q → IsGcd p.den q.den g → 0 < sum_den p q g
sum_above p q g frac_p frac_q is =
    above_product (p.den / g) q.den (above_quotient p.den g frac_p.positive (gcd_above p.den q.den g frac_q.positive is) is.0) frac_q.positive

-- what is brought to lowest terms from the numerator and the denominator is the sum
pub sum_is : (p q r : Ratio) (g : ℕ) (n : ℤ) (d : ℕ) → IsFrac p → IsFrac q → IsGcd p.den q.den g → SumFits p q g → n ≡ sum_num p q g → d ≡ sum_den p q g →
    IsFracOf (ratio_of (to_z w128 (of_z w128 n)) (pos d)) r → IsFracOf (plus p q) r
sum_is p q r g n d frac_p frac_q is fits is_n is_d r_is =
    let num : to_z w128 (of_z w128 n) ≡ sum_num p q g = ap (λ z. to_z w128 (of_z w128 z)) is_n ∙ back (sum_num p q g) fits.num in
    IsFracOf-same (plus p q) (ratio_of (sum_num p q g) (pos (sum_den p q g))) r (sum_above p q g frac_p frac_q is)
    (subst (λ m. IsFracOf (ratio_of (sum_num p q g) (pos m)) r) is_d (subst (λ z. IsFracOf (ratio_of z (pos d)) r) num r_is))
    (sum_same p q g is.0 is.1)
