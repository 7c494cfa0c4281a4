-- One number for a spelling, and no space or line end in it.
use Rattle.std.proofs.Common.{◌≡◌, ℕ, ◌^◌, ◌<◌, suc, List, ◌∷◌, drop, decimal, ℤ, pos, negsuc, FitsSigned, refl, sym, ap, ◌∙◌, subst, arith}
use Rattle.std.proofs.lemmas.Fmt.{decimal_is_IsNumeral_wide}
use Rattle.std.proofs.lemmas.List.{get_or_default}
use Rattle.std.proofs.lemmas.List.Elements.{All-head}
use Rattle.std.proofs.lemmas.Str.Parse.{digit_at}
use Rattle.std.specs.Fmt.{signed_decimal}
use Rattle.std.specs.Int.{w128}
use Rattle.std.specs.Str.Parse.{digits_value}
use Rattle.xn_text.specs.Pieces.{Lacks}

-- a spelling has no byte below the digits
pub spelling_lacks : (byte n : ℕ) → byte < 48 → n < 10 ^ 64 → Lacks byte (decimal n)
spelling_lacks byte n low small = λ k d h e.
    let digit = digit_at (decimal n) k (decimal_is_IsNumeral_wide n small).0.1 h in
    omega (arith, digit, e, get_or_default (decimal n) k 0 d h)

pub one_spelling : (m n : ℕ) → m < 10 ^ 64 → n < 10 ^ 64 → decimal m ≡ decimal n → m ≡ n
one_spelling m n p q e = sym (decimal_is_IsNumeral_wide m p).1 ∙ ap (digits_value 10) e ∙ (decimal_is_IsNumeral_wide n q).1

no_minus : (n : ℕ) (digits : List ℕ) → n < 10 ^ 64 → decimal n ≡ 45 ∷ digits → ⊥
no_minus n digits small e = All-head (λ b. b ≡ 45 → ⊥) 45 digits (subst (Lacks 45) e (spelling_lacks 45 n (omega arith) small)) refl

pub one_signed_spelling : (y z : ℤ) → FitsSigned w128 y → FitsSigned w128 z → signed_decimal y ≡ signed_decimal z → y ≡ z
one_signed_spelling (pos m) (pos n) p q e = let p' = p.sfits in let q' = q.sfits in ap pos (one_spelling m n (omega arith) (omega arith) e)
one_signed_spelling (pos m) (negsuc n) p q e = let p' = p.sfits in absurd (no_minus m (decimal (suc n)) (omega arith) e)
one_signed_spelling (negsuc m) (pos n) p q e = let q' = q.sfits in absurd (no_minus n (decimal (suc m)) (omega arith) (sym e))
one_signed_spelling (negsuc m) (negsuc n) p q e =
    let p' = p.sfits in let q' = q.sfits in
    ap negsuc (omega (arith, one_spelling (suc m) (suc n) (omega arith) (omega arith) (ap (drop 1) e)))
