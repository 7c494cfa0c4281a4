-- Ratios as whole numbers over one denominator.
use Rattle.std.proofs.Common.{◌≡◌, ℕ, zero, suc, ◌*◌, ◌<◌, arith, ap, sym, refl, ◌∙◌, subst}
use Rattle.std.specs.Prelude.{ℤ, pos, negsuc, ◌+ℤ◌, ◌-ℤ◌, ◌*ℤ◌, neg_ℤ, ◌≤ℤ◌, ◌<ℤ◌}
use Rattle.std.proofs.Math.IntN.{zero-*ℤ}
use Rattle.std.proofs.lemmas.Int.{ints, by_lt_z}
use Rattle.xn_frac.specs.Ratio.{Ratio, whole, plus, minus, minus_of, times, Same, IsNoMore, IsLess}
use Rattle.xn_frac.proofs.Gaps.{gaps, gap-same, by_gap2, by_gap3, by_gap4}
use Rattle.xn_frac.proofs.Ratios.{cancel, le_cancel, le_times, above_product}
use Rattle.xn_frac.proofs.Wholes.{times_one}
use Rattle.xn_lp.specs.Box.{sum_to}
use Rattle.xn_lp.specs.Whole.{total_to, IsOver}
use Rattle.xn_lp.proofs.Totals.{mul_assoc}

-- ---- identities
sum_out : (m n z : ℤ) (p q : ℕ) → (m *ℤ pos q +ℤ n *ℤ pos p) *ℤ z ≡ (m *ℤ z) *ℤ pos q +ℤ (n *ℤ z) *ℤ pos p
sum_out m n z p q = by_gap3 (λ m n z. (m *ℤ pos q +ℤ n *ℤ pos p) *ℤ z ≡ (m *ℤ z) *ℤ pos q +ℤ (n *ℤ z) *ℤ pos p) (λ a b c d e f. simp gaps (gap-same _ _ _ _ (omega arith))) m n z

sum_in : (u v : ℤ) (p q : ℕ) → (u *ℤ pos p) *ℤ pos q +ℤ (v *ℤ pos q) *ℤ pos p ≡ (u +ℤ v) *ℤ pos (p * q)
sum_in u v p q = by_gap2 (λ u v. (u *ℤ pos p) *ℤ pos q +ℤ (v *ℤ pos q) *ℤ pos p ≡ (u +ℤ v) *ℤ pos (p * q)) (λ a b c d. simp gaps (gap-same _ _ _ _ (omega arith))) u v

product_out : (m n z w : ℤ) → (m *ℤ n) *ℤ (z *ℤ w) ≡ (m *ℤ z) *ℤ (n *ℤ w)
product_out m n z w = by_gap4 (λ m n z w. (m *ℤ n) *ℤ (z *ℤ w) ≡ (m *ℤ z) *ℤ (n *ℤ w)) (λ a b c d e f g h. simp gaps (gap-same _ _ _ _ (omega arith))) m n z w

product_in : (u v : ℤ) (p q : ℕ) → (u *ℤ pos p) *ℤ (v *ℤ pos q) ≡ (u *ℤ v) *ℤ pos (p * q)
product_in u v p q = by_gap2 (λ u v. (u *ℤ pos p) *ℤ (v *ℤ pos q) ≡ (u *ℤ v) *ℤ pos (p * q)) (λ a b c d. simp gaps (gap-same _ _ _ _ (omega arith))) u v

neg-mul : (m z : ℤ) → neg_ℤ m *ℤ z ≡ neg_ℤ (m *ℤ z)
neg-mul m z = by_gap2 (λ m z. neg_ℤ m *ℤ z ≡ neg_ℤ (m *ℤ z)) (λ a b c d. simp gaps (gap-same _ _ _ _ (omega arith))) m z

swap_right : (u p w : ℤ) → (u *ℤ p) *ℤ w ≡ (u *ℤ w) *ℤ p
swap_right u p w = by_gap3 (λ u p w. (u *ℤ p) *ℤ w ≡ (u *ℤ w) *ℤ p) (λ a b c d e f. simp gaps (gap-same _ _ _ _ (omega arith))) u p w

-- ---- what is made of numbers over a denominator is over one
pub over-whole : (k z : ℤ) → IsOver (whole k) (k *ℤ z) z
over-whole k z = record { positive = omega arith; value = sym (times_one (k *ℤ z)) }

pub over-plus : (a b : Ratio) (u v z : ℤ) → IsOver a u z → IsOver b v z → IsOver (plus a b) (u +ℤ v) z
over-plus a b u v z h k = record {
  positive = above_product a.den b.den h.positive k.positive;
  value = sum_out a.num b.num z a.den b.den
      ∙ ap (λ t. t *ℤ pos b.den +ℤ (b.num *ℤ z) *ℤ pos a.den) h.value
      ∙ ap (λ t. (u *ℤ pos a.den) *ℤ pos b.den +ℤ t *ℤ pos a.den) k.value
      ∙ sum_in u v a.den b.den;
}

pub over-times : (a b : Ratio) (u v z w : ℤ) → IsOver a u z → IsOver b v w → IsOver (times a b) (u *ℤ v) (z *ℤ w)
over-times a b u v z w h k = record {
  positive = above_product a.den b.den h.positive k.positive;
  value = product_out a.num b.num z w
      ∙ ap (λ t. t *ℤ (b.num *ℤ w)) h.value
      ∙ ap (λ t. (u *ℤ pos a.den) *ℤ t) k.value
      ∙ product_in u v a.den b.den;
}

pub over-minus_of : (a : Ratio) (u z : ℤ) → IsOver a u z → IsOver (minus_of a) (neg_ℤ u) z
over-minus_of a u z h = record {
  positive = h.positive;
  value = neg-mul a.num z ∙ ap neg_ℤ h.value ∙ sym (neg-mul u (pos a.den));
}

pub over-minus : (a b : Ratio) (u v z : ℤ) → IsOver a u z → IsOver b v z → IsOver (minus a b) (u -ℤ v) z
over-minus a b u v z h k = over-plus a (minus_of b) u (neg_ℤ v) z h (over-minus_of b v z k)

-- a whole factor on either side
pub over-scaled : (k : ℤ) (a : Ratio) (u z : ℤ) → IsOver a u z → IsOver (times (whole k) a) (k *ℤ u) z
over-scaled k a u z h = record {
  positive = above_product 1 a.den (omega arith) h.positive;
  value = mul_assoc k a.num z ∙ ap (λ t. k *ℤ t) h.value ∙ sym (mul_assoc k u (pos a.den)) ∙ ap (λ d. (k *ℤ u) *ℤ pos d) (one_times a.den);
}
  where
    one_times : (n : ℕ) → n ≡ 1 * n
    one_times n = omega arith

pub over-scaled_right : (k : ℤ) (a : Ratio) (u z : ℤ) → IsOver a u z → IsOver (times a (whole k)) (u *ℤ k) z
over-scaled_right k a u z h = record {
  positive = above_product a.den 1 h.positive (omega arith);
  value = swap_right a.num k z ∙ ap (λ t. t *ℤ k) h.value ∙ swap_right u (pos a.den) k ∙ ap (λ d. (u *ℤ k) *ℤ pos d) (times_one_right a.den);
}
  where
    times_one_right : (n : ℕ) → n ≡ n * 1
    times_one_right n = omega arith

-- a wider denominator
pub over-wider : (a : Ratio) (u z w : ℤ) → IsOver a u z → IsOver a (u *ℤ w) (z *ℤ w)
over-wider a u z w h = record {
  positive = h.positive;
  value = sym (mul_assoc a.num z w) ∙ ap (λ t. t *ℤ w) h.value ∙ swap_right u (pos a.den) w;
}

pub over-wider_left : (a : Ratio) (u z w : ℤ) → IsOver a u z → IsOver a (w *ℤ u) (w *ℤ z)
over-wider_left a u z w h = record {
  positive = h.positive;
  value = swap_left a.num w z ∙ ap (λ t. w *ℤ t) h.value ∙ sym (mul_assoc w u (pos a.den));
}
  where
    swap_left : (m w z : ℤ) → m *ℤ (w *ℤ z) ≡ w *ℤ (m *ℤ z)
    swap_left m w z = by_gap3 (λ m w z. m *ℤ (w *ℤ z) ≡ w *ℤ (m *ℤ z)) (λ a b c d e f. simp gaps (gap-same _ _ _ _ (omega arith))) m w z

pub over-sum_to : (n : ℕ) (f : ℕ → Ratio) (g : ℕ → ℤ) (z : ℤ) → ((j : ℕ) → j < n → IsOver (f j) (g j) z) → IsOver (sum_to n f) (total_to n g) z
over-sum_to zero f g z h = record { positive = omega arith; value = zero-*ℤ z ∙ sym (times_one (pos 0)) }
over-sum_to (suc n) f g z h =
    over-plus (sum_to n f) (f n) (total_to n g) (g n) z (over-sum_to n f g z (λ j l. h j (omega arith))) (h n (omega arith))

-- ---- comparisons
pub positive_is : (z : ℤ) → pos 0 <ℤ z → (k : ℕ) × (z ≡ pos k) × (0 < k)
positive_is (pos k) h = (k, refl, omega (arith, ints))
positive_is (negsuc k) h = absurd (omega (arith, ints))

-- the two products of a comparison, each times the denominator
left_side : (a b : Ratio) (u z : ℤ) → IsOver a u z → (a.num *ℤ pos b.den) *ℤ z ≡ (u *ℤ pos (a.den * b.den))
left_side a b u z h = swap_right a.num (pos b.den) z ∙ ap (λ t. t *ℤ pos b.den) h.value ∙ mul_assoc u (pos a.den) (pos b.den)

right_side : (a b : Ratio) (v z : ℤ) → IsOver b v z → (b.num *ℤ pos a.den) *ℤ z ≡ (v *ℤ pos (a.den * b.den))
right_side a b v z h = left_side b a v z h ∙ ap (λ d. v *ℤ pos d) (turned b.den a.den)
  where
    turned : (m n : ℕ) → m * n ≡ n * m
    turned m n = omega arith

pub at_most-over : (a b : Ratio) (u v z : ℤ) → pos 0 <ℤ z → IsOver a u z → IsOver b v z → u ≤ℤ v → IsNoMore a b
at_most-over a b u v z above h k e = width (positive_is z above)
  where
    width : (n : ℕ) × (z ≡ pos n) × (0 < n) → IsNoMore a b
    width (n, is, pos_n) =
        le_cancel (a.num *ℤ pos b.den) (b.num *ℤ pos a.den) n pos_n
        (subst (λ t. ((a.num *ℤ pos b.den) *ℤ t) ≤ℤ ((b.num *ℤ pos a.den) *ℤ t)) is
        (subst (λ t. t ≤ℤ ((b.num *ℤ pos a.den) *ℤ z)) (sym (left_side a b u z h))
        (subst (λ t. (u *ℤ pos (a.den * b.den)) ≤ℤ t) (sym (right_side a b v z k)) (le_times u v (a.den * b.den) e))))

pub over-at_most : (a b : Ratio) (u v z : ℤ) → pos 0 <ℤ z → IsOver a u z → IsOver b v z → IsNoMore a b → u ≤ℤ v
over-at_most a b u v z above h k e = width (positive_is z above)
  where
    width : (n : ℕ) × (z ≡ pos n) × (0 < n) → u ≤ℤ v
    width (n, is, pos_n) =
        le_cancel u v (a.den * b.den) (above_product a.den b.den h.positive k.positive)
        (subst (λ t. t ≤ℤ (v *ℤ pos (a.den * b.den))) (left_side a b u z h)
        (subst (λ t. ((a.num *ℤ pos b.den) *ℤ z) ≤ℤ t) (right_side a b v z k)
        (subst (λ t. ((a.num *ℤ pos b.den) *ℤ t) ≤ℤ ((b.num *ℤ pos a.den) *ℤ t)) (sym is) (le_times (a.num *ℤ pos b.den) (b.num *ℤ pos a.den) n e))))

pub same-over : (a b : Ratio) (u v z : ℤ) → pos 0 <ℤ z → IsOver a u z → IsOver b v z → u ≡ v → Same a b
same-over a b u v z above h k e = width (positive_is z above)
  where
    width : (n : ℕ) × (z ≡ pos n) × (0 < n) → Same a b
    width (n, is, pos_n) =
        cancel (a.num *ℤ pos b.den) (b.num *ℤ pos a.den) n pos_n
        (subst (λ t. (a.num *ℤ pos b.den) *ℤ t ≡ (b.num *ℤ pos a.den) *ℤ t) is
        (left_side a b u z h ∙ ap (λ t. t *ℤ pos (a.den * b.den)) e ∙ sym (right_side a b v z k)))

below_by_not : (a b : Ratio) → ¬ IsNoMore b a → IsLess a b
below_by_not a b not_so = by_lt_z (a.num *ℤ pos b.den) (b.num *ℤ pos a.den) (λ h. h) (λ h. absurd (not_so h))

pub below-over : (a b : Ratio) (u v z : ℤ) → pos 0 <ℤ z → IsOver a u z → IsOver b v z → u <ℤ v → IsLess a b
below-over a b u v z above h k e =
    below_by_not a b (λ other. let back : v ≤ℤ u = over-at_most b a v u z above k h other in absurd (omega (arith, ints)))
