-- The laws of ratios.
use Rattle.std.proofs.Common.{◌≡◌, ◌≢◌, ◌⊎◌, inl, inr, ℕ, suc, ◌*◌, arith, ap, sym, ◌∙◌, subst}
use Rattle.std.specs.Prelude.{ℤ, pos, negsuc, ◌+ℤ◌, ◌*ℤ◌, ◌≤ℤ◌, neg_ℤ, unsigned_abs}
use Rattle.std.specs.Int.{is_negative}
use Rattle.std.proofs.lemmas.Int.{ints, by_lt_z}
use Rattle.std.proofs.lemmas.Bool.{le-ltb}
use Rattle.xn_frac.specs.Ratio.{Ratio, plus, times, over, signed, Same, IsLess, IsNoMore, IsFrac}
use Rattle.xn_frac.proofs.Gaps.{gaps, gap-same, by_gap, by_gap2, by_gap3}
use Rattle.xn_frac.proofs.Ratios.{one_form, cancel, le_times}

pub one_lowest_form : (p q : Ratio) → IsFrac p → IsFrac q → Same p q → p ≡ q
one_lowest_form p q first second same =
    let one : (unsigned_abs p.num ≡ unsigned_abs q.num) × (p.den ≡ q.den)
    = one_form p q first.positive second.positive first.lowest second.lowest same in
    let num : p.num ≡ q.num = cancel p.num q.num q.den second.positive (same ∙ ap (λ d. q.num *ℤ pos d) one.1) in
    λ i. record { num = num i; den = one.1 i }

pub sums_commute : (p q : Ratio) → Same (plus p q) (plus q p)
sums_commute p q = at p.num q.num p.den q.den
  where
    at : (a c : ℤ) (b d : ℕ) → (a *ℤ pos d +ℤ c *ℤ pos b) *ℤ pos (d * b) ≡ (c *ℤ pos b +ℤ a *ℤ pos d) *ℤ pos (b * d)
    at a c b d = by_gap2 (λ a c. (a *ℤ pos d +ℤ c *ℤ pos b) *ℤ pos (d * b) ≡ (c *ℤ pos b +ℤ a *ℤ pos d) *ℤ pos (b * d)) (λ s t u v. simp gaps (gap-same _ _ _ _ (omega arith))) a c

pub sums_associate : (p q r : Ratio) → Same (plus (plus p q) r) (plus p (plus q r))
sums_associate p q r = at p.num q.num r.num p.den q.den r.den
  where
    at : (a c e : ℤ) (b d f : ℕ) → ((a *ℤ pos d +ℤ c *ℤ pos b) *ℤ pos f +ℤ e *ℤ pos (b * d)) *ℤ pos (b * (d * f)) ≡ (a *ℤ pos (d * f) +ℤ (c *ℤ pos f +ℤ e *ℤ pos d) *ℤ pos b) *ℤ pos (b * d * f)
    at a c e b d f = by_gap3 (λ a c e. ((a *ℤ pos d +ℤ c *ℤ pos b) *ℤ pos f +ℤ e *ℤ pos (b * d)) *ℤ pos (b * (d * f)) ≡ (a *ℤ pos (d * f) +ℤ (c *ℤ pos f +ℤ e *ℤ pos d) *ℤ pos b) *ℤ pos (b * d * f))
        (λ s t u v w x. simp gaps (gap-same _ _ _ _ (omega arith))) a c e

pub products_commute : (p q : Ratio) → Same (times p q) (times q p)
products_commute p q = at p.num q.num p.den q.den
  where
    at : (a c : ℤ) (b d : ℕ) → (a *ℤ c) *ℤ pos (d * b) ≡ (c *ℤ a) *ℤ pos (b * d)
    at a c b d = by_gap2 (λ a c. (a *ℤ c) *ℤ pos (d * b) ≡ (c *ℤ a) *ℤ pos (b * d)) (λ s t u v. simp gaps (gap-same _ _ _ _ (omega arith))) a c

pub products_associate : (p q r : Ratio) → Same (times (times p q) r) (times p (times q r))
products_associate p q r = at p.num q.num r.num p.den q.den r.den
  where
    at : (a c e : ℤ) (b d f : ℕ) → ((a *ℤ c) *ℤ e) *ℤ pos (b * (d * f)) ≡ (a *ℤ (c *ℤ e)) *ℤ pos (b * d * f)
    at a c e b d f = by_gap3 (λ a c e. ((a *ℤ c) *ℤ e) *ℤ pos (b * (d * f)) ≡ (a *ℤ (c *ℤ e)) *ℤ pos (b * d * f)) (λ s t u v w x. simp gaps (gap-same _ _ _ _ (omega arith))) a c e

pub products_spread : (p q r : Ratio) → Same (times p (plus q r)) (plus (times p q) (times p r))
products_spread p q r = at p.num q.num r.num p.den q.den r.den
  where
    at : (a c e : ℤ) (b d f : ℕ) → (a *ℤ (c *ℤ pos f +ℤ e *ℤ pos d)) *ℤ pos (b * d * (b * f)) ≡ ((a *ℤ c) *ℤ pos (b * f) +ℤ (a *ℤ e) *ℤ pos (b * d)) *ℤ pos (b * (d * f))
    at a c e b d f = by_gap3 (λ a c e. (a *ℤ (c *ℤ pos f +ℤ e *ℤ pos d)) *ℤ pos (b * d * (b * f)) ≡ ((a *ℤ c) *ℤ pos (b * f) +ℤ (a *ℤ e) *ℤ pos (b * d)) *ℤ pos (b * (d * f)))
        (λ s t u v w x. simp gaps (gap-same _ _ _ _ (omega arith))) a c e

pub quotients_undo_products : (p q : Ratio) → q.num ≢ pos 0 → Same (times (over p q) q) p
quotients_undo_products p q some = at p.num q.num p.den q.den some
  where
    above : (a : ℤ) (b d m : ℕ) → (a *ℤ pos d *ℤ pos m) *ℤ pos b ≡ a *ℤ pos (b * m * d)
    above a b d m = by_gap (λ a. (a *ℤ pos d *ℤ pos m) *ℤ pos b ≡ a *ℤ pos (b * m * d)) (λ s t. simp gaps (gap-same _ _ _ _ (omega arith))) a

    below : (a : ℤ) (b d m : ℕ) → (a *ℤ neg_ℤ (pos d) *ℤ neg_ℤ (pos m)) *ℤ pos b ≡ a *ℤ pos (b * m * d)
    below a b d m = by_gap (λ a. (a *ℤ neg_ℤ (pos d) *ℤ neg_ℤ (pos m)) *ℤ pos b ≡ a *ℤ pos (b * m * d)) (λ s t. simp gaps (gap-same _ _ _ _ (omega arith))) a

    at : (a c : ℤ) (b d : ℕ) → c ≢ pos 0 → (a *ℤ signed (is_negative c) d *ℤ c) *ℤ pos b ≡ a *ℤ pos (b * unsigned_abs c * d)
    at a (pos m) b d h = rw (le-ltb m 0 (omega arith)) (above a b d m)
    at a (negsuc m) b d h = below a b d (suc m)

pub order_is_total : (p q : Ratio) → IsLess p q ⊎ IsNoMore q p
order_is_total p q = by_lt_z (p.num *ℤ pos q.den) (q.num *ℤ pos p.den) inl inr

pub sums_keep_order : (p q r : Ratio) → IsNoMore p q → IsNoMore (plus p r) (plus q r)
sums_keep_order p q r h =
    subst (λ t. t ≤ℤ ((q.num *ℤ pos r.den +ℤ r.num *ℤ pos q.den) *ℤ pos (p.den * r.den))) (sym (split p.num r.num p.den q.den r.den))
    (subst (λ t. (p.num *ℤ pos q.den *ℤ pos (r.den * r.den) +ℤ r.num *ℤ pos (p.den * q.den * r.den)) ≤ℤ t) (sym (split_other q.num r.num p.den q.den r.den))
    (raised _ _ (r.num *ℤ pos (p.den * q.den * r.den)) (le_times (p.num *ℤ pos q.den) (q.num *ℤ pos p.den) (r.den * r.den) h)))
  where
    raised : (x y z : ℤ) → x ≤ℤ y → (x +ℤ z) ≤ℤ (y +ℤ z)
    raised x y z h = omega (arith, ints)

    split : (a e : ℤ) (b d f : ℕ) → (a *ℤ pos f +ℤ e *ℤ pos b) *ℤ pos (d * f) ≡ a *ℤ pos d *ℤ pos (f * f) +ℤ e *ℤ pos (b * d * f)
    split a e b d f = by_gap2 (λ a e. (a *ℤ pos f +ℤ e *ℤ pos b) *ℤ pos (d * f) ≡ a *ℤ pos d *ℤ pos (f * f) +ℤ e *ℤ pos (b * d * f)) (λ s t u v. simp gaps (gap-same _ _ _ _ (omega arith))) a e

    split_other : (c e : ℤ) (b d f : ℕ) → (c *ℤ pos f +ℤ e *ℤ pos d) *ℤ pos (b * f) ≡ c *ℤ pos b *ℤ pos (f * f) +ℤ e *ℤ pos (b * d * f)
    split_other c e b d f = by_gap2 (λ c e. (c *ℤ pos f +ℤ e *ℤ pos d) *ℤ pos (b * f) ≡ c *ℤ pos b *ℤ pos (f * f) +ℤ e *ℤ pos (b * d * f)) (λ s t u v. simp gaps (gap-same _ _ _ _ (omega arith))) c e
