-- Quotients of natural numbers, compared.
use Rattle.std.proofs.Common.{◌≡◌, ◌≢◌, ℕ, ◌+◌, ◌*◌, ◌/◌, ◌%◌, ◌<◌, ◌≤◌, ◌↔◌, IsTrue, nat_lt, arith, rules, ap, inl, inr}
use Rattle.std.proofs.Math.Nat.{mul-le-mul_right, div-add-mod', mod-lt}
use Rattle.std.proofs.lemmas.Bool.{cases_lt}

-- of two numbers with the whole parts k and m, where k < m, the first is below
below_by_parts : (p q r s k m x y : ℕ) → p ≡ k * q + x → r ≡ m * s + y → x < q → y < s → k < m → p * s < r * q
below_by_parts p q r s k m x y e f h g l =
    let a : (p + 1) * s ≤ ((k + 1) * q) * s = mul-le-mul_right s (omega arith) in
    let b : (k + 1) * (q * s) ≤ m * (q * s) = mul-le-mul_right (q * s) (omega arith) in
    let c : (m * s) * q ≤ r * q = mul-le-mul_right q (omega arith) in
    omega (arith, a, b, c)

parts : (p q : ℕ) → p ≡ p / q * q + p % q
parts p q = omega (arith, div-add-mod' p q)

-- the whole parts decide where they differ
pub by_parts : (p q r s : ℕ) → 0 < q → 0 < s → p / q ≢ r / s → IsTrue (nat_lt (p / q) (r / s)) ↔ (p * s < r * q)
by_parts p q r s h g differ = (
  λ t. below_by_parts p q r s (p / q) (r / s) (p % q) (r % s) (parts p q) (parts r s) (mod-lt p h) (mod-lt r g) (search rules),
  λ t. elim (cases_lt (p / q) (r / s)) [
    | inl below ↦ search rules
    | inr above ↦
        let other : r * q < p * s = below_by_parts r s p q (r / s) (p / q) (r % s) (p % q) (parts r s) (parts p q) (mod-lt r g) (mod-lt p h) (omega arith) in
        absurd (omega arith)
  ],
)

turned : (p q r s k x y : ℕ) → p ≡ k * q + x → r ≡ k * s + y → (p * s < r * q) ↔ (s * x < q * y)
turned p q r s k x y e f =
    (λ h. omega (arith, h, ap (λ t. t * s) e, ap (λ t. t * q) f), λ h. omega (arith, h, ap (λ t. t * s) e, ap (λ t. t * q) f))

-- where the whole parts agree, the parts that are left decide, each turned over
pub by_rests : (p q r s : ℕ) → p / q ≡ r / s → (p * s < r * q) ↔ (s * (p % q) < q * (r % s))
by_rests p q r s e = turned p q r s (p / q) (p % q) (r % s) (parts p q) (rw e (parts r s))

-- a part that is left on the right alone makes the left the smaller
pub by_right_rest : (p q r s : ℕ) → 0 < q → p / q ≡ r / s → p % q ≡ 0 → r % s ≢ 0 → p * s < r * q
by_right_rest p q r s h e none some =
    let least : 1 * (r % s) ≤ q * (r % s) = mul-le-mul_right (r % s) h in
    let zero_left : s * (p % q) ≡ s * 0 = ap (λ n. s * n) none in
    (by_rests p q r s e).1 (omega arith)
