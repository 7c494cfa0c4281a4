-- Whole numbers as differences of two natural numbers, by which identities of sums and products are proved:
-- `by_gap` puts a difference for a variable, `simp gaps` makes one difference of each side, and `gap-same` compares.
use Rattle.std.proofs.Common.{◌≡◌, ℕ, ◌+◌, ◌*◌, arith, ap, sym, subst, ◌≤◌}
use Rattle.std.specs.Prelude.{◌≤ℤ◌}
use Rattle.std.proofs.Math.IntN.{ℤ, pos, negsuc, ◌+ℤ◌, ◌*ℤ◌, neg_ℤ}
use Rattle.std.proofs.lemmas.Int.{ints}
use borrow.Author.Differences.{up, down, product_is, same_in, sum_is_lem, neg_is}

-- the whole number u - d
pub gap : ℕ → ℕ → ℤ
gap u d = pos u +ℤ neg_ℤ (pos d)

pub gap-same : (a b c d : ℕ) → a + d ≡ c + b → gap a b ≡ gap c d
unfolding gap
gap-same a b c d e = omega (arith, ints)

pub same-gap : (a b c d : ℕ) → gap a b ≡ gap c d → a + d ≡ c + b
unfolding gap
same-gap a b c d e = omega (arith, ints)

pub le-gap : (a b c d : ℕ) → gap a b ≤ℤ gap c d → a + d ≤ c + b
unfolding gap
le-gap a b c d h = omega (arith, ints)

pub gap-le : (a b c d : ℕ) → a + d ≤ c + b → gap a b ≤ℤ gap c d
unfolding gap
gap-le a b c d h = omega (arith, ints)

pub gap-add : (a b c d : ℕ) → gap a b +ℤ gap c d ≡ gap (a + c) (b + d)
unfolding gap
gap-add a b c d = omega (arith, ints)

pub gap-neg : (a b : ℕ) → neg_ℤ (gap a b) ≡ gap b a
unfolding gap
gap-neg a b = omega (arith, ints)

pub pos-gap : (a : ℕ) → pos a ≡ gap a 0
unfolding gap
pos-gap a = omega (arith, ints)

pub neg-pos-gap : (a : ℕ) → neg_ℤ (pos a) ≡ gap 0 a
unfolding gap
neg-pos-gap a = omega (arith, ints)

negsuc-gap : (a : ℕ) → negsuc a ≡ gap 0 (a + 1)
unfolding gap
negsuc-gap a = omega (arith, ints)

cross : (p q a b r s c d : ℕ) → p + b ≡ a + q → r + d ≡ c + s → (p * r + q * s) + (a * d + b * c) ≡ (a * c + b * d) + (p * s + q * r)
cross p q a b r s c d e f = omega (arith, ap (λ x. x * r) e, ap (λ x. x * s) e, ap (λ x. a * x) f, ap (λ x. b * x) f)

pub gap-mul : (a b c d : ℕ) → gap a b *ℤ gap c d ≡ gap (a * c + b * d) (a * d + b * c)
unfolding gap
gap-mul a b c d =
    let e : up (gap a b) + b ≡ a + down (gap a b) = omega (arith, ints) in
    let f : up (gap c d) + d ≡ c + down (gap c d) = omega (arith, ints) in
    let crossed : (up (gap a b) * up (gap c d) + down (gap a b) * down (gap c d)) + (a * d + b * c) ≡ (a * c + b * d) + (up (gap a b) * down (gap c d) + down (gap a b) * up (gap c d))
    = cross (up (gap a b)) (down (gap a b)) a b (up (gap c d)) (down (gap c d)) c d e f in
    let product : (up (gap a b *ℤ gap c d) ≡ up (gap a b) * up (gap c d) + down (gap a b) * down (gap c d)) × (down (gap a b *ℤ gap c d) ≡ up (gap a b) * down (gap c d) + down (gap a b) * up (gap c d))
    = product_is (gap a b) (gap c d) in
    same_in (gap a b *ℤ gap c d) (gap (a * c + b * d) (a * d + b * c)) (omega (arith, crossed, product.0, product.1, sum_is_lem, neg_is))

-- makes one difference of a sum or a product
pub ruleset gaps = (neg-pos-gap, pos-gap, gap-add, gap-mul, gap-neg)

pub by_gap : (P : ℤ → Type 0) → ((u d : ℕ) → P (gap u d)) → (z : ℤ) → P z
by_gap P h (pos n) = subst P (sym (pos-gap n)) (h n 0)
by_gap P h (negsuc n) = subst P (sym (negsuc-gap n)) (h 0 (n + 1))

pub by_gap2 : (P : ℤ → ℤ → Type 0) → ((a b c d : ℕ) → P (gap a b) (gap c d)) → (y z : ℤ) → P y z
by_gap2 P h y z = by_gap (λ y. P y z) (λ a b. by_gap (λ z. P (gap a b) z) (λ c d. h a b c d) z) y

pub by_gap3 : (P : ℤ → ℤ → ℤ → Type 0) → ((a b c d e f : ℕ) → P (gap a b) (gap c d) (gap e f)) → (x y z : ℤ) → P x y z
by_gap3 P h x y z = by_gap (λ x. P x y z) (λ a b. by_gap2 (λ y z. P (gap a b) y z) (λ c d e f. h a b c d e f) y z) x

pub by_gap4 : (P : ℤ → ℤ → ℤ → ℤ → Type 0) → ((a b c d e f g h : ℕ) → P (gap a b) (gap c d) (gap e f) (gap g h)) → (w x y z : ℤ) → P w x y z
by_gap4 P k w x y z = by_gap2 (λ w x. P w x y z) (λ a b c d. by_gap2 (λ y z. P (gap a b) (gap c d) y z) (λ e f g h. k a b c d e f g h) y z) w x
