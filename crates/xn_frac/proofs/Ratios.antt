-- The same number written in two ways.
use Rattle.std.proofs.Common.{◌≡◌, ℕ, ◌+◌, ◌*◌, ◌<◌, ◌≤◌, arith, ap, sym, ◌∙◌, subst}
use Rattle.std.specs.Prelude.{ℤ, pos, ◌*ℤ◌, unsigned_abs, ◌≤ℤ◌}
use Rattle.std.specs.Int.{IsGcd}
use Rattle.std.proofs.Math.Nat.{eq_of_mul-eq-mul_right, mul-le-mul_right, le_of_mul-le-mul_right}
use Rattle.std.proofs.lemmas.Int.{unsigned_abs-mul}
use Rattle.xn_frac.specs.Ratio.{Ratio, Same, IsFracOf}
use Rattle.xn_frac.proofs.Gaps.{gap, gaps, gap-same, same-gap, le-gap, gap-le, by_gap, by_gap2}
use Rattle.xn_frac.proofs.Coprime.{one_lowest}

gap_cancel : (a b c d k : ℕ) → 0 < k → gap (a * k) (b * k) ≡ gap (c * k) (d * k) → gap a b ≡ gap c d
gap_cancel a b c d k above e =
    let sums : a * k + d * k ≡ c * k + b * k = same-gap _ _ _ _ e in
    gap-same a b c d (eq_of_mul-eq-mul_right k above (a + d) (c + b) (omega arith))

gap_times : (a b k : ℕ) → gap a b *ℤ pos k ≡ gap (a * k) (b * k)
gap_times a b k = simp gaps (gap-same _ _ _ _ (omega arith))

-- a factor above 0 is cancelled
pub cancel : (x y : ℤ) (k : ℕ) → 0 < k → x *ℤ pos k ≡ y *ℤ pos k → x ≡ y
cancel x y k above = by_gap2 (λ x y. x *ℤ pos k ≡ y *ℤ pos k → x ≡ y)
    (λ a b c d e. gap_cancel a b c d k above (sym (gap_times a b k) ∙ e ∙ gap_times c d k)) x y

gap_le_cancel : (a b c d k : ℕ) → 0 < k → gap (a * k) (b * k) ≤ℤ gap (c * k) (d * k) → gap a b ≤ℤ gap c d
gap_le_cancel a b c d k above e =
    let sums : a * k + d * k ≤ c * k + b * k = le-gap _ _ _ _ e in
    let product : (a + d) * k ≤ (c + b) * k = omega (arith, sums) in
    gap-le a b c d (le_of_mul-le-mul_right product above)

-- so is one of an order
pub le_cancel : (x y : ℤ) (k : ℕ) → 0 < k → (x *ℤ pos k) ≤ℤ (y *ℤ pos k) → x ≤ℤ y
le_cancel x y k above = by_gap2 (λ x y. (x *ℤ pos k) ≤ℤ (y *ℤ pos k) → x ≤ℤ y)
    (λ a b c d e. gap_le_cancel a b c d k above (subst (λ t. t ≤ℤ gap (c * k) (d * k)) (gap_times a b k) (subst (λ t. (gap a b *ℤ pos k) ≤ℤ t) (gap_times c d k) e))) x y

gap_le_times : (a b c d k : ℕ) → gap a b ≤ℤ gap c d → gap (a * k) (b * k) ≤ℤ gap (c * k) (d * k)
gap_le_times a b c d k e =
    let product : (a + d) * k ≤ (c + b) * k = mul-le-mul_right k (le-gap a b c d e) in
    gap-le _ _ _ _ (omega (arith, product))

-- an order is kept by a factor
pub le_times : (x y : ℤ) (k : ℕ) → x ≤ℤ y → (x *ℤ pos k) ≤ℤ (y *ℤ pos k)
le_times x y k = by_gap2 (λ x y. x ≤ℤ y → (x *ℤ pos k) ≤ℤ (y *ℤ pos k))
    (λ a b c d e. subst (λ t. t ≤ℤ (gap c d *ℤ pos k)) (sym (gap_times a b k)) (subst (λ t. gap (a * k) (b * k) ≤ℤ t) (sym (gap_times c d k)) (gap_le_times a b c d k e))) x y

-- the order of two factors is free
pub swapped : (x : ℤ) (m n : ℕ) → x *ℤ pos m *ℤ pos n ≡ x *ℤ pos n *ℤ pos m
swapped x m n = by_gap (λ x. x *ℤ pos m *ℤ pos n ≡ x *ℤ pos n *ℤ pos m) (λ a b. simp gaps (gap-same _ _ _ _ (omega arith))) x

pub Same-trans : (p q r : Ratio) → 0 < q.den → Same p q → Same q r → Same p r
Same-trans p q r above e f =
    cancel (p.num *ℤ pos r.den) (r.num *ℤ pos p.den) q.den above
    (swapped p.num r.den q.den ∙ ap (λ t. t *ℤ pos r.den) e ∙ swapped q.num p.den r.den ∙ ap (λ t. t *ℤ pos p.den) f ∙ swapped r.num q.den p.den)

pub above_product : (m n : ℕ) → 0 < m → 0 < n → 0 < m * n
above_product m n h k = let least : 1 * n ≤ m * n = mul-le-mul_right n h in omega (arith, least)

pub Same-sym : (p q : Ratio) → Same p q → Same q p
Same-sym p q e = sym e

pub IsFracOf-same : (p q r : Ratio) → 0 < q.den → IsFracOf q r → Same q p → IsFracOf p r
IsFracOf-same p q r above is e = record { frac = is.frac; same = Same-trans r q p above is.same e }

-- two lowest forms of one number have one size and one denominator
pub one_form : (p r : Ratio) → 0 < p.den → 0 < r.den → IsGcd (unsigned_abs p.num) p.den 1 → IsGcd (unsigned_abs r.num) r.den 1 → Same p r →
    (unsigned_abs p.num ≡ unsigned_abs r.num) × (p.den ≡ r.den)
one_form p r above above_r low low_r e =
    one_lowest (unsigned_abs p.num) p.den (unsigned_abs r.num) r.den above above_r low low_r
    (sym (unsigned_abs-mul p.num (pos r.den)) ∙ ap unsigned_abs e ∙ unsigned_abs-mul r.num (pos p.den))
