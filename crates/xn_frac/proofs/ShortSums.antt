-- Sums without a second long division (Knuth, The Art of Computer Programming 2, 4.5.1).
use Rattle.std.proofs.Common.{◌≡◌, ℕ, ◌+◌, ◌*◌, ◌/◌, ◌<◌, ◌≤◌, ◌^◌, inl, inr, arith, ap, sym, ◌∙◌, subst}
use Rattle.std.specs.Prelude.{ℤ, pos, ◌+ℤ◌, ◌*ℤ◌, unsigned_abs}
use Rattle.std.proofs.Math.IntN.{+ℤ_comm}
use Rattle.std.specs.Int.{IsGcd, ◌∣◌, is_negative, w64}
use mir.Val.{to_z, of_z}
use Rattle.std.proofs.lemmas.Bool.{cases_lt}
use Rattle.std.proofs.lemmas.Int.{ints, unsigned_abs-mul}
use Rattle.std.proofs.lemmas.Nat.Gcd.{IsGcd-swap}
use Rattle.std.proofs.Math.Nat.{one-dvd, dvd-add_iff_right, dvd-add_iff_left, dvd-mul_left_of_dvd, dvd-mul_right, div-mul_cancel, div-le_self, mul-le-mul}
use Rattle.xn_frac.specs.Ratio.{Ratio, IsFrac, IsFracOf, ratio_of, plus, times, signed, sum_num, sum_den, SumFits, CanAdd}
use Rattle.xn_frac.specs.Small.{IsShort}
use Rattle.xn_frac.proofs.Coprime.{dvd_other, coprime_product, coprime_divisor, coprime_quotients}
use Rattle.xn_frac.proofs.Lowest.{gcd_above, lowest_is}
use Rattle.xn_frac.proofs.Ratios.{IsFracOf-same}
use Rattle.xn_frac.proofs.Signs.{back_short, abs-signed, differ}
use Rattle.xn_frac.proofs.Products.{reduced, is_product}
use Rattle.xn_frac.proofs.Sums.{sum_above, sum_same}

-- a divisor of a sum and of one term divides the other
dvd_term : (d : ℕ) (u v : ℤ) → d ∣ unsigned_abs (u +ℤ v) → d ∣ unsigned_abs v → d ∣ unsigned_abs u
dvd_term d u v in_sum in_term = elim (cases_lt (unsigned_abs (u +ℤ v)) (unsigned_abs u + unsigned_abs v)) [
  | inl below ↦ elim (cases_lt (unsigned_abs u) (unsigned_abs v)) [
    | inl less ↦
        let e : unsigned_abs v ≡ unsigned_abs (u +ℤ v) + unsigned_abs u = omega (arith, ints, below, less) in
        (dvd-add_iff_right d in_sum).1 (subst (λ t. d ∣ t) e in_term)
    | inr more ↦
        let e : unsigned_abs u ≡ unsigned_abs (u +ℤ v) + unsigned_abs v = omega (arith, ints, below, more) in
        subst (λ t. d ∣ t) (sym e) ((dvd-add_iff_right d in_sum).0 in_term)
  ]
  | inr above ↦
      let e : unsigned_abs (u +ℤ v) ≡ unsigned_abs u + unsigned_abs v = omega (arith, ints, above) in
      (dvd-add_iff_left d in_term).1 (subst (λ t. d ∣ t) e in_sum)
]

-- a y + c x has no divisor in common with x, where a and y have none
apart : (a c : ℤ) (x y : ℕ) → IsGcd (unsigned_abs a) x 1 → IsGcd y x 1 → IsGcd (unsigned_abs (a *ℤ pos y +ℤ c *ℤ pos x)) x 1
apart a c x y low parts = (
  one-dvd _,
  one-dvd x,
  λ d in_sum in_x.
      let term : d ∣ unsigned_abs (c *ℤ pos x) = subst (λ t. d ∣ t) (sym (unsigned_abs-mul c (pos x))) (dvd-mul_left_of_dvd d in_x (unsigned_abs c)) in
      let first : d ∣ unsigned_abs a * y = subst (λ t. d ∣ t) (unsigned_abs-mul a (pos y)) (dvd_term d (a *ℤ pos y) (c *ℤ pos x) in_sum term) in
      (coprime_product (unsigned_abs a) y x low parts).2 d first in_x,
)

-- so the sum's numerator has a divisor in common with its denominator only where it has it with the common part
pub sum_common : (p q : Ratio) (g h : ℕ) → IsFrac p → IsFrac q → IsGcd p.den q.den g → IsGcd (unsigned_abs (sum_num p q g)) g h →
    IsGcd (unsigned_abs (sum_num p q g)) (sum_den p q g) h
sum_common p q g h frac_p frac_q is common =
    let above : 0 < g = gcd_above p.den q.den g frac_q.positive is in
    let left : p.den / g * g ≡ p.den = div-mul_cancel g is.0 in
    let right : q.den / g * g ≡ q.den = div-mul_cancel g is.1 in
    let parts : IsGcd (p.den / g) (q.den / g) 1 = coprime_quotients p.den q.den g above is in
    let low_p : IsGcd (unsigned_abs p.num) (p.den / g) 1
    = IsGcd-swap _ _ 1 (coprime_divisor (p.den / g) p.den _ (IsGcd-swap _ _ 1 frac_p.lowest) (part_divides p.den g left)) in
    let low_q : IsGcd (unsigned_abs q.num) (q.den / g) 1
    = IsGcd-swap _ _ 1 (coprime_divisor (q.den / g) q.den _ (IsGcd-swap _ _ 1 frac_q.lowest) (part_divides q.den g right)) in
    let from_left : IsGcd (unsigned_abs (sum_num p q g)) (p.den / g) 1 = apart p.num q.num (p.den / g) (q.den / g) low_p (IsGcd-swap _ _ 1 parts) in
    let from_right : IsGcd (unsigned_abs (sum_num p q g)) (q.den / g) 1
    = subst (λ t. IsGcd (unsigned_abs t) (q.den / g) 1) (+ℤ_comm (q.num *ℤ pos (p.den / g)) (p.num *ℤ pos (q.den / g))) (apart q.num p.num (q.den / g) (p.den / g) low_q parts) in
    let both : IsGcd (p.den / g * (q.den / g)) (unsigned_abs (sum_num p q g)) 1
    = coprime_product (p.den / g) (q.den / g) _ (IsGcd-swap _ _ 1 from_left) (IsGcd-swap _ _ 1 from_right) in
    let whole : sum_den p q g ≡ p.den / g * (q.den / g) * g = ap (λ t. p.den / g * t) (sym right) ∙ omega arith in (
      common.0,
      subst (λ t. h ∣ t) (sym whole) (dvd-mul_left_of_dvd h common.1 (p.den / g * (q.den / g))),
      λ d in_num in_den. common.2 d in_num (dvd_other d (p.den / g * (q.den / g)) g
          (coprime_divisor d _ (p.den / g * (q.den / g)) (IsGcd-swap _ _ 1 both) in_num)
          (subst (λ t. d ∣ t) whole in_den)),
    )
  where
    part_divides : (m g : ℕ) → m / g * g ≡ m → m / g ∣ m
    part_divides m g e = subst (λ t. m / g ∣ t) e (dvd-mul_right (m / g) g)

times_small : (m n : ℕ) → m < 2 ^ 31 → n < 2 ^ 31 → m * n < 2 ^ 62
times_small m n small_m small_n =
    let low_m : m ≤ 2147483647 = omega arith in
    let low_n : n ≤ 2147483647 = omega arith in
    let bound : m * n ≤ 2147483647 * 2147483647 = mul-le-mul low_m low_n in
    omega (arith, bound)

scaled_small : (a : ℤ) (n : ℕ) → unsigned_abs a < 2 ^ 31 → n < 2 ^ 31 → unsigned_abs (a *ℤ pos n) < 2 ^ 62
scaled_small a n small_a small_n = subst (λ t. t < 2 ^ 62) (sym (unsigned_abs-mul a (pos n))) (times_small (unsigned_abs a) n small_a small_n)

-- the numbers that are met on the way to a sum of short fractions are in range
small_parts : (p q : Ratio) (g : ℕ) → IsShort p → IsShort q → SumFits p q g × (unsigned_abs (sum_num p q g) < 2 ^ 63)
small_parts p q g short_p short_q =
    let part_p : p.den / g < 2 ^ 31 = omega (arith, div-le_self p.den g, short_p.den) in
    let part_q : q.den / g < 2 ^ 31 = omega (arith, div-le_self q.den g, short_q.den) in
    let left : unsigned_abs (p.num *ℤ pos (q.den / g)) < 2 ^ 62 = scaled_small p.num (q.den / g) short_p.num part_q in
    let right : unsigned_abs (q.num *ℤ pos (p.den / g)) < 2 ^ 62 = scaled_small q.num (p.den / g) short_q.num part_p in
    let num : unsigned_abs (sum_num p q g) < 2 ^ 63 = omega (arith, ints, left, right) in
    let den : sum_den p q g < 2 ^ 62 = times_small (p.den / g) q.den part_p short_q.den in
    (record { left = omega (arith, left); right = omega (arith, right); num = omega (arith, num); den = omega (arith, den) }, num)

pub sum_fits : (p q : Ratio) (g : ℕ) → IsShort p → IsShort q → IsGcd p.den q.den g → CanAdd p q
sum_fits p q g short_p short_q is = (g, is, (small_parts p q g short_p short_q).0)

-- without what its numerator has in common with g, the sum over g is in lowest terms
pub sum_short : (p q : Ratio) (g h : ℕ) → IsShort p → IsShort q → IsGcd p.den q.den g → IsGcd (unsigned_abs (sum_num p q g)) g h →
    IsFracOf (plus p q) (record { num = signed (is_negative (sum_num p q g)) (unsigned_abs (sum_num p q g) / h); den = sum_den p q g / h })
sum_short p q g h short_p short_q is common =
    let fits : SumFits p q g = (small_parts p q g short_p short_q).0 in
    let above : 0 < sum_den p q g = sum_above p q g short_p.frac short_q.frac is in
    IsFracOf-same (plus p q) (ratio_of (sum_num p q g) (pos (sum_den p q g))) _ above
    (lowest_is (sum_num p q g) (sum_den p q g) h above (sum_common p q g h short_p.frac short_q.frac is common) fits.num fits.den)
    (sum_same p q g is.0 is.1)

-- the same as code makes it
pub sum_read : (p q : Ratio) (g h x y size d : ℕ) (s t r : ℤ) → IsShort p → IsShort q → IsGcd p.den q.den g → x ≡ p.den / g → y ≡ q.den / g →
    s ≡ p.num *ℤ pos y → t ≡ q.num *ℤ pos x → size ≡ unsigned_abs (to_z w64 (of_z w64 (s +ℤ t))) → IsGcd size g h →
    r ≡ signed (is_negative (to_z w64 (of_z w64 (s +ℤ t)))) (unsigned_abs (to_z w64 (of_z w64 (s +ℤ t))) / h) → d ≡ x * q.den / h →
    IsFracOf (plus p q) (record { num = to_z w64 (of_z w64 r); den = d })
sum_read p q g h x y size d s t r short_p short_q is is_x is_y is_s is_t is_size common is_r is_d =
    let small : unsigned_abs (sum_num p q g) < 2 ^ 63 = (small_parts p q g short_p short_q).1 in
    let first : s ≡ p.num *ℤ pos (q.den / g) = is_s ∙ ap (λ k. p.num *ℤ pos k) is_y in
    let second : t ≡ q.num *ℤ pos (p.den / g) = is_t ∙ ap (λ k. q.num *ℤ pos k) is_x in
    let total : s +ℤ t ≡ sum_num p q g = ap (λ z. z +ℤ t) first ∙ ap (λ z. p.num *ℤ pos (q.den / g) +ℤ z) second in
    let num : to_z w64 (of_z w64 (s +ℤ t)) ≡ sum_num p q g = ap (λ z. to_z w64 (of_z w64 z)) total ∙ back_short (sum_num p q g) small in
    let result : r ≡ signed (is_negative (sum_num p q g)) (unsigned_abs (sum_num p q g) / h) = is_r ∙ ap (λ z. signed (is_negative z) (unsigned_abs z / h)) num in
    let size_r : unsigned_abs r ≡ unsigned_abs (sum_num p q g) / h = ap unsigned_abs result ∙ abs-signed (is_negative (sum_num p q g)) (unsigned_abs (sum_num p q g) / h) in
    let small_r : unsigned_abs r < 2 ^ 63 = omega (arith, size_r, small, div-le_self (unsigned_abs (sum_num p q g)) h) in
    let value : IsFracOf (plus p q) (record { num = signed (is_negative (sum_num p q g)) (unsigned_abs (sum_num p q g) / h); den = sum_den p q g / h })
    = sum_short p q g h short_p short_q is (subst (λ k. IsGcd k g h) (is_size ∙ ap unsigned_abs num) common) in
    subst (λ z. IsFracOf (plus p q) (record { num = z; den = d })) (sym (back_short r small_r ∙ result))
    (subst (λ k. IsFracOf (plus p q) (record { num = signed (is_negative (sum_num p q g)) (unsigned_abs (sum_num p q g) / h); den = k }))
    (sym (is_d ∙ ap (λ k. k * q.den / h) is_x)) value)

-- a product of short fractions, with g the common part of p's numerator and q's denominator, and h that of the others
pub product_short : (p q : Ratio) (g h : ℕ) (r : ℤ) → IsShort p → IsShort q → IsGcd (unsigned_abs p.num) q.den g → IsGcd (unsigned_abs q.num) p.den h →
    r ≡ signed (differ p.num q.num) (unsigned_abs p.num / g * (unsigned_abs q.num / h)) →
    IsFracOf (times p q) (record { num = to_z w64 (of_z w64 r); den = p.den / h * (q.den / g) })
product_short p q g h r short_p short_q is_g is_h is_r =
    let size : unsigned_abs p.num / g * (unsigned_abs q.num / h) < 2 ^ 62 = parts_small (unsigned_abs p.num) (unsigned_abs q.num) g h short_p.num short_q.num in
    let den : p.den / h * (q.den / g) < 2 ^ 62 = parts_small p.den q.den h g short_p.den short_q.den in
    let size_r : unsigned_abs r ≡ unsigned_abs p.num / g * (unsigned_abs q.num / h) = ap unsigned_abs is_r ∙ abs-signed (differ p.num q.num) _ in
    let small_r : unsigned_abs r < 2 ^ 63 = omega (arith, size_r, size) in
    subst (λ z. IsFracOf (times p q) (record { num = z; den = p.den / h * (q.den / g) })) (sym (back_short r small_r ∙ is_r))
    (is_product p q _ _ (reduced p q g h short_p.frac short_q.frac is_g is_h) (omega (arith, size)) (omega (arith, den)))
  where
    parts_small : (m n g h : ℕ) → m < 2 ^ 31 → n < 2 ^ 31 → m / g * (n / h) < 2 ^ 62
    parts_small m n g h small_m small_n =
        let part_m : m / g < 2 ^ 31 = omega (arith, div-le_self m g, small_m) in
        let part_n : n / h < 2 ^ 31 = omega (arith, div-le_self n h, small_n) in
        times_small (m / g) (n / h) part_m part_n
