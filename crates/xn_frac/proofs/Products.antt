-- A product of parts without common divisors is the product in lowest terms.
use Rattle.std.proofs.Common.{◌≡◌, ◌≢◌, ℕ, zero, suc, ◌*◌, ◌/◌, ◌<◌, ◌^◌, Option, None, Some, arith, ap, sym, refl, ◌∙◌, subst}
use Rattle.std.specs.Prelude.{ℤ, pos, negsuc, ◌*ℤ◌, unsigned_abs, IfNone}
use Rattle.std.specs.Int.{IsGcd, ◌∣◌, is_negative, w128}
use Rattle.std.proofs.Math.Nat.{div-mul_cancel, dvd-mul_right}
use Rattle.std.proofs.lemmas.Nat.Gcd.{IsGcd-swap}
use mir.Val.{to_z, of_z}
use Rattle.xn_frac.specs.Ratio.{Ratio, Same, IsFrac, IsFracOf, times, signed, CanMul, inverse_of, minus_of}
use Rattle.xn_frac.proofs.Signs.{back, differ, product-signed, abs-signed, abs-neg, signed-mul}
use Rattle.xn_frac.proofs.Coprime.{coprime_product, coprime_quotients, coprime_divisor}
use Rattle.xn_frac.proofs.Lowest.{gcd_above, above_quotient}
use Rattle.xn_frac.proofs.Ratios.{one_form, Same-trans, Same-sym, above_product}

-- size and den are the product in lowest terms, but for its sign
pub record IsReduced (p q : Ratio) (size den : ℕ) : Type 0 where
  pub positive : 0 < den
  pub lowest : IsGcd size den 1
  pub same : Same (record { num = signed (differ p.num q.num) size; den = den }) (times p q)

exchanged : (a c b d x y u v g h : ℕ) → a ≡ x * g → c ≡ y * h → b ≡ u * h → d ≡ v * g → (x * y) * (b * d) ≡ (a * c) * (u * v)
exchanged a c b d x y u v g h e f i j = rw (e, f, i, j) (omega arith)

divides_left : (d m : ℕ) → d ∣ m → m / d ∣ m
divides_left d m h = subst (λ n. m / d ∣ n) (div-mul_cancel d h) (dvd-mul_right (m / d) d)

-- with g the common part of p's numerator and q's denominator, and h that of the others
pub reduced : (p q : Ratio) (g h : ℕ) → IsFrac p → IsFrac q → IsGcd (unsigned_abs p.num) q.den g → IsGcd (unsigned_abs q.num) p.den h →
    IsReduced p q (unsigned_abs p.num / g * (unsigned_abs q.num / h)) (p.den / h * (q.den / g))
reduced p q g h frac_p frac_q is_g is_h =
    let above_g : 0 < g = gcd_above (unsigned_abs p.num) q.den g frac_q.positive is_g in
    let above_h : 0 < h = gcd_above (unsigned_abs q.num) p.den h frac_p.positive is_h in
    let apart_g : IsGcd (unsigned_abs p.num / g) (q.den / g) 1 = coprime_quotients (unsigned_abs p.num) q.den g above_g is_g in
    let apart_h : IsGcd (unsigned_abs q.num / h) (p.den / h) 1 = coprime_quotients (unsigned_abs q.num) p.den h above_h is_h in
    let own_p : IsGcd (unsigned_abs p.num / g) (p.den / h) 1 = parts_apart (unsigned_abs p.num) p.den g h frac_p.lowest is_g.0 is_h.1 in
    let own_q : IsGcd (unsigned_abs q.num / h) (q.den / g) 1 = parts_apart (unsigned_abs q.num) q.den h g frac_q.lowest is_h.0 is_g.1 in
    record {
      positive = above_product (p.den / h) (q.den / g) (above_quotient p.den h frac_p.positive above_h is_h.1) (above_quotient q.den g frac_q.positive above_g is_g.1);
      lowest = IsGcd-swap _ _ 1 (coprime_product (p.den / h) (q.den / g) _
          (IsGcd-swap _ _ 1 (coprime_product _ _ (p.den / h) own_p apart_h))
          (IsGcd-swap _ _ 1 (coprime_product _ _ (q.den / g) apart_g own_q)));
      same = signed-mul (differ p.num q.num) _ _
          ∙ ap (signed (differ p.num q.num)) (exchanged (unsigned_abs p.num) (unsigned_abs q.num) p.den q.den _ _ _ _ g h
          (sym (div-mul_cancel g is_g.0)) (sym (div-mul_cancel h is_h.0)) (sym (div-mul_cancel h is_h.1)) (sym (div-mul_cancel g is_g.1)))
          ∙ sym (signed-mul (differ p.num q.num) _ _)
          ∙ ap (λ t. t *ℤ pos (p.den / h * (q.den / g))) (sym (product-signed p.num q.num));
    }
  where
    parts_apart : (m d g h : ℕ) → IsGcd m d 1 → g ∣ m → h ∣ d → IsGcd (m / g) (d / h) 1
    parts_apart m d g h low in_m in_d =
        IsGcd-swap _ _ 1 (coprime_divisor (d / h) d (m / g) (IsGcd-swap _ _ 1 (coprime_divisor (m / g) m d low (divides_left g m in_m))) (divides_left h d in_d))

-- where both are in range they are the product
pub is_product : (p q : Ratio) (size den : ℕ) → IsReduced p q size den → size < 2 ^ 127 → den < 2 ^ 127 →
    IsFracOf (times p q) (record { num = signed (differ p.num q.num) size; den = den })
is_product p q size den is small small_den = record {
  frac = record {
    positive = is.positive;
    lowest = subst (λ n. IsGcd n den 1) (sym (abs-signed (differ p.num q.num) size)) is.lowest;
    num_in_range = subst (λ n. n < 2 ^ 127) (sym (abs-signed (differ p.num q.num) size)) small;
    den_in_range = small_den;
  };
  same = is.same;
}

one_size : (p q r : Ratio) (size den : ℕ) → 0 < p.den * q.den → IsReduced p q size den → IsFracOf (times p q) r → (unsigned_abs r.num ≡ size) × (r.den ≡ den)
one_size p q r size den above is r_is =
    let one : (unsigned_abs r.num ≡ unsigned_abs (signed (differ p.num q.num) size)) × (r.den ≡ den)
    = one_form r (record { num = signed (differ p.num q.num) size; den = den }) r_is.frac.positive is.positive r_is.frac.lowest
    (subst (λ n. IsGcd n den 1) (sym (abs-signed (differ p.num q.num) size)) is.lowest)
    (Same-trans r (times p q) (record { num = signed (differ p.num q.num) size; den = den }) above r_is.same
    (Same-sym (record { num = signed (differ p.num q.num) size; den = den }) (times p q) is.same)) in
    (one.0 ∙ abs-signed (differ p.num q.num) size, one.1)

-- where one is out of range there is no product
pub not_product_size : (p q : Ratio) (size den : ℕ) → 0 < p.den * q.den → IsReduced p q size den → ¬ (size < 2 ^ 127) → ¬ CanMul p q
not_product_size p q size den above is large (r, r_is) = large (subst (λ n. n < 2 ^ 127) (one_size p q r size den above is r_is).0 r_is.frac.num_in_range)

pub not_product_den : (p q : Ratio) (size den : ℕ) → 0 < p.den * q.den → IsReduced p q size den → ¬ (den < 2 ^ 127) → ¬ CanMul p q
not_product_den p q size den above is large (r, r_is) = large (subst (λ n. n < 2 ^ 127) (one_size p q r size den above is r_is).1 r_is.frac.den_in_range)

-- the sizes as code makes them
pub reduced_read : (p q : Ratio) (m n g h : ℕ) → IsFrac p → IsFrac q → m ≡ unsigned_abs (to_z w128 (of_z w128 p.num)) → n ≡ unsigned_abs (to_z w128 (of_z w128 q.num)) →
    IsGcd m q.den g → IsGcd n p.den h → IsReduced p q (m / g * (n / h)) (p.den / h * (q.den / g))
reduced_read p q m n g h frac_p frac_q e f is_g is_h =
    let e' : m ≡ unsigned_abs p.num = e ∙ ap unsigned_abs (back p.num frac_p.num_in_range) in
    let f' : n ≡ unsigned_abs q.num = f ∙ ap unsigned_abs (back q.num frac_q.num_in_range) in
    rw (e', f') (reduced p q g h frac_p frac_q (subst (λ t. IsGcd t q.den g) e' is_g) (subst (λ t. IsGcd t p.den h) f' is_h))

-- a fact that holds is one for none
pub if_none : {A : Type 0} (P : Type 0) (r : Option A) → P → IfNone r P
if_none P None h = h
if_none P (Some x) h = tt

-- one over a fraction is a fraction
pub inverse_frac : (p : Ratio) → IsFrac p → p.num ≢ pos 0 → IsFrac (inverse_of p)
inverse_frac p frac some = record {
  positive = above_abs p.num some;
  lowest = subst (λ n. IsGcd n (unsigned_abs p.num) 1) (sym (abs-signed (is_negative p.num) p.den)) (IsGcd-swap (unsigned_abs p.num) p.den 1 frac.lowest);
  num_in_range = subst (λ n. n < 2 ^ 127) (sym (abs-signed (is_negative p.num) p.den)) frac.den_in_range;
  den_in_range = frac.num_in_range;
}
  where
    above_abs : (z : ℤ) → z ≢ pos 0 → 0 < unsigned_abs z
    above_abs (pos zero) h = absurd (h refl)
    above_abs (pos (suc n)) h = omega arith
    above_abs (negsuc n) h = omega arith

pub negated_frac : (p : Ratio) → IsFrac p → IsFrac (minus_of p)
negated_frac p frac = record {
  positive = frac.positive;
  lowest = subst (λ n. IsGcd n p.den 1) (sym (abs-neg p.num)) frac.lowest;
  num_in_range = subst (λ n. n < 2 ^ 127) (sym (abs-neg p.num)) frac.num_in_range;
  den_in_range = frac.den_in_range;
}
