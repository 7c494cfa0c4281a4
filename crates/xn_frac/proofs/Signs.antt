-- Whole numbers by sign and size.
use Rattle.std.proofs.Common.{◌≡◌, ℕ, zero, suc, ◌*◌, ◌<◌, ◌^◌, subst, Bool, true, false, arith, ap, sym, refl, ◌∙◌}
use Rattle.std.specs.Prelude.{unsigned_abs}
use Rattle.std.specs.Int.{is_negative, w64, w128}
use Rattle.std.proofs.Math.IntN.{ℤ, pos, negsuc, ◌*ℤ◌, ◌-ℤ◌, neg_ℤ, +ℤ_idl}
use Rattle.std.proofs.lemmas.Int.{ints, to_z-of_z}
use Rattle.std.specs.Int.RustNames.{FitsSigned}
use mir.Val.{to_z, of_z}
use mathlib.Core.Bool.{not, beq}
use Rattle.std.proofs.lemmas.Bool.{le-ltb}
use Rattle.xn_frac.proofs.Gaps.{gaps, gap-same}
use Rattle.xn_frac.specs.Ratio.{signed, IsInRange}

pub as_signed : (n : ℤ) → n ≡ signed (is_negative n) (unsigned_abs n)
as_signed (pos n) = rw (le-ltb n 0 (omega arith)) refl
as_signed (negsuc n) = refl

pub abs-signed : (s : Bool) (m : ℕ) → unsigned_abs (signed s m) ≡ m
abs-signed true m = omega (arith, ints)
abs-signed false m = refl

neg-mul : (m k : ℕ) → neg_ℤ (pos m) *ℤ pos k ≡ neg_ℤ (pos (m * k))
neg-mul m k = simp gaps (gap-same _ _ _ _ (omega arith))

mul_neg : (m n : ℕ) → pos m *ℤ neg_ℤ (pos n) ≡ neg_ℤ (pos (m * n))
mul_neg m n = simp gaps (gap-same _ _ _ _ (omega arith))

neg-mul_neg : (m n : ℕ) → neg_ℤ (pos m) *ℤ neg_ℤ (pos n) ≡ pos (m * n)
neg-mul_neg m n = simp gaps (gap-same _ _ _ _ (omega arith))

fits_from_range : (z : ℤ) → IsInRange z → FitsSigned w128 z
fits_from_range z small = omega (arith, ints)

pub signed-mul : (s : Bool) (m k : ℕ) → signed s m *ℤ pos k ≡ signed s (m * k)
signed-mul true m k = neg-mul m k
signed-mul false m k = refl

-- the sign of a product
abbrev pub differ : ℤ → ℤ → Bool
differ a c = not (beq (is_negative a) (is_negative c))

signs-mul : (s t : Bool) (m n : ℕ) → signed s m *ℤ signed t n ≡ signed (not (beq s t)) (m * n)
signs-mul true true m n = neg-mul_neg m n
signs-mul true false m n = neg-mul m n
signs-mul false true m n = mul_neg m n
signs-mul false false m n = refl

-- a product by signs and sizes
pub product-signed : (a c : ℤ) → a *ℤ c ≡ signed (differ a c) (unsigned_abs a * unsigned_abs c)
product-signed a c =
    ap (λ t. t *ℤ c) (as_signed a) ∙ ap (λ t. signed (is_negative a) (unsigned_abs a) *ℤ t) (as_signed c)
    ∙ signs-mul (is_negative a) (is_negative c) (unsigned_abs a) (unsigned_abs c)

-- a number in range that went to bits and is read again
pub back : (z : ℤ) → IsInRange z → to_z w128 (of_z w128 z) ≡ z
back z small = let fits : FitsSigned w128 z = fits_from_range z small in to_z-of_z w128 z fits

-- the same of 64 bits
pub back_short : (z : ℤ) → unsigned_abs z < 2 ^ 63 → to_z w64 (of_z w64 z) ≡ z
back_short z small = let fits : FitsSigned w64 z = omega (arith, ints) in to_z-of_z w64 z fits

pub abs-neg : (z : ℤ) → unsigned_abs (neg_ℤ z) ≡ unsigned_abs z
abs-neg (pos zero) = refl
abs-neg (pos (suc n)) = refl
abs-neg (negsuc n) = refl

-- the number with the other sign, as code makes it
pub back_neg : (z : ℤ) → IsInRange z → to_z w128 (of_z w128 (pos 0 -ℤ to_z w128 (of_z w128 z))) ≡ neg_ℤ z
back_neg z small =
    ap (λ t. to_z w128 (of_z w128 (pos 0 -ℤ t))) (back z small)
    ∙ ap (λ t. to_z w128 (of_z w128 t)) (+ℤ_idl (neg_ℤ z))
    ∙ back (neg_ℤ z) (subst (λ n. n < 2 ^ 127) (sym (abs-neg z)) small)
