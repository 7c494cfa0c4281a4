-- Numbers with no common divisor but 1.
use Rattle.std.proofs.Common.{◌≡◌, ℕ, zero, suc, ◌+◌, ◌*◌, ◌/◌, ◌%◌, ◌<◌, ◌≤◌, ◌⊎◌, inl, inr, arith, ap, sym, ◌∙◌, subst}
use Rattle.std.specs.Int.{IsGcd, ◌∣◌}
use Rattle.std.proofs.lemmas.Bool.{cases_lt}
use Rattle.std.proofs.lemmas.Nat.Gcd.{same_from_IsGcd, IsGcd-from_zero, IsGcd-swap, dvd_trans, dvd_antisymm}
use Rattle.std.proofs.Math.Nat.{dvd-mod_iff, dvd-mul_left, dvd-mul_left_of_dvd, dvd-add_iff_right, one-dvd, mul-dvd-mul_right, dvd_of_mul-dvd-mul_right, div-mul_cancel, mod-lt, div-add-mod', eq_of_mul-eq-mul_right}

-- g is a multiple of one number less a multiple of the other
abbrev pub Bezout : ℕ → ℕ → ℕ → Type 0
Bezout a b g = (x : ℕ) × (y : ℕ) × ((x * a ≡ y * b + g) ⊎ (x * b ≡ y * a + g))

gcd_of_rest : (a b g : ℕ) → IsGcd a b g → IsGcd b (a % b) g
gcd_of_rest a b g h = (h.1, (dvd-mod_iff g h.1).1 h.0, λ d in_b in_rest. h.2 d ((dvd-mod_iff d in_b).0 in_rest) in_b)

bezout_step : (a b g : ℕ) → Bezout b (a % b) g → Bezout a b g
bezout_step a b g (x, y, inl e) =
    (x + y * (a / b), y, inr (omega (arith, e, ap (λ t. y * t) (div-add-mod' a b))))
bezout_step a b g (x, y, inr e) =
    (x, y + x * (a / b), inl (omega (arith, e, ap (λ t. x * t) (div-add-mod' a b))))

pub bezout : (n a b : ℕ) → b ≤ n → (g : ℕ) → IsGcd a b g → Bezout a b g
bezout zero a b h g is =
    let zero_b : b ≡ 0 = omega arith in
    let same : g ≡ a = same_from_IsGcd a b g a is (IsGcd-from_zero a b zero_b) in
    (1, 0, inl (omega (arith, same)))
bezout (suc n) a b h g is =
    elim (cases_lt 0 b) [
      | inl above ↦ bezout_step a b g (bezout n b (a % b) (omega (arith, mod-lt a above)) g (gcd_of_rest a b g is))
      | inr below ↦ (1, 0, inl (omega (arith, same_from_IsGcd a b g a is (IsGcd-from_zero a b (omega arith)))))
    ]

-- a divisor of a product that is coprime to one factor divides the other
pub dvd_other : (d a b : ℕ) → IsGcd d a 1 → d ∣ a * b → d ∣ b
dvd_other d a b one divides = other (bezout a d a (omega arith) 1 one)
  where
    other : Bezout d a 1 → d ∣ b
    other (x, y, inl e) =
        let sum : x * b * d ≡ y * (a * b) + b = omega (arith, ap (λ t. t * b) e) in
        (dvd-add_iff_right d (dvd-mul_left_of_dvd d divides y)).1 (subst (λ n. d ∣ n) sum (dvd-mul_left d (x * b)))
    other (x, y, inr e) =
        let sum : x * (a * b) ≡ y * b * d + b = omega (arith, ap (λ t. t * b) e) in
        (dvd-add_iff_right d (dvd-mul_left d (y * b))).1 (subst (λ n. d ∣ n) sum (dvd-mul_left_of_dvd d divides x))

-- a product of two numbers that are coprime to c is coprime to c
pub coprime_product : (a b c : ℕ) → IsGcd a c 1 → IsGcd b c 1 → IsGcd (a * b) c 1
coprime_product a b c first second = (
  one-dvd (a * b),
  one-dvd c,
  λ d in_product in_c.
      let apart : IsGcd d a 1 = (one-dvd d, one-dvd a, λ e in_d in_a. first.2 e in_a (dvd_trans e in_d in_c)) in
      second.2 d (dvd_other d a b apart in_product) in_c,
)

-- a part of a number that is coprime to c is coprime to c
pub coprime_divisor : (d a c : ℕ) → IsGcd a c 1 → d ∣ a → IsGcd d c 1
coprime_divisor d a c one divides = (one-dvd d, one-dvd c, λ e in_d in_c. one.2 e (dvd_trans e in_d divides) in_c)

-- what is left of two numbers without their greatest common divisor is coprime
pub coprime_quotients : (a b g : ℕ) → 0 < g → IsGcd a b g → IsGcd (a / g) (b / g) 1
coprime_quotients a b g above is = (
  one-dvd (a / g),
  one-dvd (b / g),
  λ d in_a in_b.
      let times_a : d * g ∣ a = subst (λ n. d * g ∣ n) (div-mul_cancel g is.0) (mul-dvd-mul_right d in_a g) in
      let times_b : d * g ∣ b = subst (λ n. d * g ∣ n) (div-mul_cancel g is.1) (mul-dvd-mul_right d in_b g) in
      let all : d * g ∣ 1 * g = subst (λ n. d * g ∣ n) (omega arith) (is.2 (d * g) times_a times_b) in
      dvd_of_mul-dvd-mul_right d above all,
)

-- one number has one lowest form: sizes
pub one_lowest : (m d n e : ℕ) → 0 < d → 0 < e → IsGcd m d 1 → IsGcd n e 1 → m * e ≡ n * d → (m ≡ n) × (d ≡ e)
one_lowest m d n e above above_e low low_e same =
    let first : d ∣ e = dvd_other d m e (IsGcd-swap m d 1 low) (subst (λ t. d ∣ t) (sym same) (dvd-mul_left d n)) in
    let second : e ∣ d = dvd_other e n d (IsGcd-swap n e 1 low_e) (subst (λ t. e ∣ t) same (dvd-mul_left e m)) in
    let one : d ≡ e = dvd_antisymm first second in
    (eq_of_mul-eq-mul_right d above m n (ap (λ t. m * t) one ∙ same), one)
