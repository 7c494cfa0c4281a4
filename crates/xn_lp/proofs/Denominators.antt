-- Common denominators, step by step.
use Rattle.std.proofs.Common.{◌≡◌, ℕ, ◌+◌, ◌*◌, ◌/◌, ◌<◌, List, arith, ap, sym, refl, ◌∙◌, subst, inl, inr}
use Rattle.std.specs.Prelude.{ℤ, pos, negsuc, ◌*ℤ◌, ◌<ℤ◌}
use Rattle.std.proofs.Math.IntN.{*ℤ_comm}
use Rattle.std.proofs.Math.Nat.{mul-div_cancel}
use Rattle.std.proofs.lemmas.Int.{ints}
use Rattle.std.proofs.lemmas.Bool.{cases_eq}
use lib.Signed.{quot_z}
use Rattle.xn_frac.specs.Ratio.{Ratio, ratio_of, IsFrac, IsFracOf}
use Rattle.xn_frac.proofs.Ratios.{above_product}
use Rattle.xn_lp.specs.Box.{entry}
use Rattle.xn_lp.specs.Whole.{IsOver, Divides}
use Rattle.xn_lp.proofs.Totals.{mul_assoc}

-- the widened number is the fraction's denominator times another number above 0
widened_value : (f r : Ratio) (o n : ℤ) → pos 0 <ℤ o → IsFracOf (ratio_of (pos f.den) o) r → n ≡ o *ℤ r.num → n ≡ pos r.den *ℤ pos f.den
widened_value f r (pos k) n above is e = e ∙ *ℤ_comm (pos k) r.num ∙ is.same ∙ *ℤ_comm (pos f.den) (pos r.den)
widened_value f r (negsuc k) n above is e = absurd (omega (arith, ints))

pub widened_above : (f r : Ratio) (o n : ℤ) → pos 0 <ℤ o → IsFrac f → IsFracOf (ratio_of (pos f.den) o) r → n ≡ o *ℤ r.num → pos 0 <ℤ n
widened_above f r o n above frac is e =
    let some : 0 < r.den * f.den = above_product r.den f.den is.frac.positive frac.positive in
    let value : n ≡ pos (r.den * f.den) = widened_value f r o n above is e in
    omega (arith, ints)

pub widened_divides : (f r : Ratio) (o n : ℤ) → pos 0 <ℤ o → IsFracOf (ratio_of (pos f.den) o) r → n ≡ o *ℤ r.num → Divides f.den n
widened_divides f r o n above is e = (pos r.den, widened_value f r o n above is e)

pub widened_keeps : (o m n : ℤ) → n ≡ o *ℤ m → (d : ℕ) → Divides d o → Divides d n
widened_keeps o m n e d (k, is) =
    (m *ℤ k, e ∙ *ℤ_comm o m ∙ ap (λ t. m *ℤ t) is ∙ sym (mul_assoc m k (pos d)))

exact : (o k d : ℕ) → 0 < d → o ≡ k * d → o / d ≡ k
exact o k d above e = ap (λ t. t / d) e ∙ mul-div_cancel k above

numerator_of : (f : Ratio) (o d : ℕ) (k : ℤ) → 0 < o → 0 < f.den → d ≡ f.den → pos o ≡ k *ℤ pos f.den → f.num *ℤ pos o ≡ (f.num *ℤ pos (o / d)) *ℤ pos f.den
numerator_of f o d (pos k) above above_den same e =
    let size : o ≡ k * f.den = omega (arith, ints) in
    ap (λ t. f.num *ℤ t) e ∙ sym (mul_assoc f.num (pos k) (pos f.den)) ∙ ap (λ t. (f.num *ℤ pos t) *ℤ pos f.den) (sym (ap (λ t. o / t) same ∙ exact o k f.den above_den size))
numerator_of f o d (negsuc k) above above_den same e = absurd (omega (arith, ints))

-- the numerator over a multiple of the denominator
pub numerator_is : (f : Ratio) (n num o q den : ℤ) → IsFrac f → num ≡ f.num → den ≡ pos f.den → pos 0 <ℤ o → Divides f.den o → q ≡ quot_z o den → n ≡ num *ℤ q → IsOver f n o
numerator_is f n num (pos o) q den frac is_num is_den above (k, is) is_q e = record {
  positive = frac.positive;
  value = numerator_of f o f.den k (omega (arith, ints)) frac.positive refl is
      ∙ ap (λ t. t *ℤ pos f.den) (ap (λ t. f.num *ℤ t) (sym (is_q ∙ ap (quot_z (pos o)) is_den)) ∙ ap (λ t. t *ℤ q) (sym is_num) ∙ sym e);
}
numerator_is f n num (negsuc o) q den frac is_num is_den above divides is_q e = absurd (omega (arith, ints))

-- one fraction more
pub divides_more : (xs : List Ratio) (i : ℕ) (p : Ratio) (n : ℤ) → p ≡ entry xs i → ((k : ℕ) → k < i → Divides (entry xs k).den n) → Divides p.den n →
    (k : ℕ) → k < i + 1 → Divides (entry xs k).den n
divides_more xs i p n is before here k l = elim (cases_eq k i) [
  | inl same ↦ subst (λ j. Divides (entry xs j).den n) (sym same) (subst (λ (r : Ratio). Divides r.den n) is here)
  | inr other ↦ before k (omega arith)
]
