-- Points of the box as whole numbers over one denominator.
use Rattle.std.proofs.Common.{◌≡◌, ℕ, zero, suc, ◌*◌, ◌/◌, ◌<◌, arith, ap, sym, refl, ◌∙◌, subst, inl, inr}
use Rattle.std.specs.Prelude.{ℤ, pos, ◌*ℤ◌, ◌≤ℤ◌, ◌<ℤ◌}
use Rattle.std.specs.Int.{◌∣◌}
use Rattle.std.proofs.Math.IntN.{zero-*ℤ}
use Rattle.std.proofs.Math.Nat.{div-mul_cancel, dvd-mul_left, dvd_trans, dvd-mul_right}
use Rattle.std.proofs.lemmas.Int.{ints}
use Rattle.std.proofs.lemmas.Bool.{cases_eq}
use Rattle.xn_frac.specs.Ratio.{Ratio, whole}
use Rattle.xn_frac.proofs.Ratios.{above_product}
use Rattle.xn_frac.proofs.Gaps.{gaps, gap-same, by_gap}
use Rattle.xn_lp.specs.Box.{IsInUnit, IsInBox}
use Rattle.xn_lp.specs.Whole.{IsOver, AreWithin}
use Rattle.xn_lp.proofs.Totals.{mul_assoc}
use Rattle.xn_lp.proofs.Over.{over-whole, over-at_most, at_most-over}

-- the product of the first n denominators
dens : ℕ → (ℕ → Ratio) → ℕ
dens zero x = 1
dens (suc n) x = dens n x * (x n).den

dens_above : (n : ℕ) (x : ℕ → Ratio) → ((j : ℕ) → j < n → 0 < (x j).den) → 0 < dens n x
unfolding dens
dens_above zero x h = omega arith
dens_above (suc n) x h = above_product (dens n x) (x n).den (dens_above n x (λ j l. h j (omega arith))) (h n (omega arith))

den_divides : (n j : ℕ) (x : ℕ → Ratio) → j < n → (x j).den ∣ dens n x
unfolding dens
den_divides zero j x l = absurd (omega arith)
den_divides (suc n) j x l = elim (cases_eq j n) [
  | inl last ↦ subst (λ k. (x k).den ∣ dens n x * (x n).den) (sym last) (dvd-mul_left (x n).den (dens n x))
  | inr before ↦ dvd_trans (x j).den (den_divides n j x (omega arith)) (dvd-mul_right (dens n x) (x n).den)
]

over_dens : (p : Ratio) (m : ℕ) → 0 < p.den → p.den ∣ m → IsOver p (p.num *ℤ pos (m / p.den)) (pos m)
over_dens p m above divides = record {
  positive = above;
  value = ap (λ k. p.num *ℤ pos k) (sym (div-mul_cancel p.den divides)) ∙ sym (mul_assoc p.num (pos (m / p.den)) (pos p.den));
}

-- numbers over one denominator
pub record Common (n : ℕ) (x : ℕ → Ratio) (u : ℕ → ℤ) (d : ℤ) : Type 0 where
  pub above : pos 0 <ℤ d
  pub over : (j : ℕ) → j < n → IsOver (x j) (u j) d
  pub within : AreWithin n u d

one_mul : (z : ℤ) → pos 1 *ℤ z ≡ z
one_mul z = by_gap (λ z. pos 1 *ℤ z ≡ z) (λ a b. simp gaps (gap-same _ _ _ _ (omega arith))) z

unit_within : (p : Ratio) (u d : ℤ) → pos 0 <ℤ d → IsInUnit p → IsOver p u d → (pos 0 ≤ℤ u) × (u ≤ℤ d)
unit_within p u d above unit is = (
  subst (λ t. t ≤ℤ u) (zero-*ℤ d) (over-at_most (whole (pos 0)) p (pos 0 *ℤ d) u d above (over-whole (pos 0) d) is unit.low),
  subst (λ t. u ≤ℤ t) (one_mul d) (over-at_most p (whole (pos 1)) u (pos 1 *ℤ d) d above is (over-whole (pos 1) d) unit.high),
)

-- any numbers over one denominator
pub record CommonAny (n : ℕ) (x : ℕ → Ratio) (u : ℕ → ℤ) (d : ℤ) : Type 0 where
  pub above : pos 0 <ℤ d
  pub over : (j : ℕ) → j < n → IsOver (x j) (u j) d

pub common_any : (n : ℕ) (x : ℕ → Ratio) → ((j : ℕ) → j < n → 0 < (x j).den) → (u : ℕ → ℤ) × (d : ℤ) × CommonAny n x u d
common_any n x h = (
  λ j. (x j).num *ℤ pos (dens n x / (x j).den),
  pos (dens n x),
  record {
    above = (let nat : 0 < dens n x = dens_above n x h in omega (arith, ints));
    over = λ j l. over_dens (x j) (dens n x) (h j l) (den_divides n j x l);
  },
)

pub common : (n : ℕ) (x : ℕ → Ratio) → IsInBox n x → (u : ℕ → ℤ) × (d : ℤ) × Common n x u d
common n x h = boxed (common_any n x (λ j l. (h j l).positive))
  where
    boxed : (u : ℕ → ℤ) × (d : ℤ) × CommonAny n x u d → (u : ℕ → ℤ) × (d : ℤ) × Common n x u d
    boxed (u, d, is) = (u, d, record { above = is.above; over = is.over; within = λ j l. unit_within (x j) (u j) d is.above (h j l) (is.over j l) })

-- numbers from 0 to the denominator are in the unit
pub unit_from : (p : Ratio) (u d : ℤ) → pos 0 <ℤ d → IsOver p u d → pos 0 ≤ℤ u → u ≤ℤ d → IsInUnit p
unit_from p u d above is low high = record {
  positive = is.positive;
  low = at_most-over (whole (pos 0)) p (pos 0 *ℤ d) u d above (over-whole (pos 0) d) is (subst (λ t. t ≤ℤ u) (sym (zero-*ℤ d)) low);
  high = at_most-over p (whole (pos 1)) u (pos 1 *ℤ d) d above is (over-whole (pos 1) d) (subst (λ t. u ≤ℤ t) (sym (one_mul d)) high);
}

-- whole numbers 0 and 1
pub whole_common : (n : ℕ) (u : ℕ → ℤ) → AreWithin n u (pos 1) → Common n (λ j. whole (u j)) u (pos 1)
whole_common n u within = record {
  above = omega (arith, ints);
  over = λ j l. record { positive = omega arith; value = refl };
  within = within;
}
