-- Greatest common divisors by halving and differences.
use Rattle.std.proofs.Common.{◌≡◌, ℕ, zero, suc, ◌+◌, ◌-◌, ◌*◌, ◌/◌, ◌%◌, ◌^◌, ◌<◌, ◌≤◌, ◌⊎◌, inl, inr, arith, ap, sym, ◌∙◌, subst, min}
use Rattle.std.specs.Int.{IsGcd, ◌∣◌, bit_at, trailing_zeros, abs_diff, w64}
use Rattle.std.proofs.lemmas.Bool.{cases_lt}
use Rattle.std.proofs.lemmas.Nat.{pow-add}
use Rattle.std.proofs.lemmas.Nat.Bits.{bit_at-trailing_zeros}
use Rattle.std.proofs.lemmas.Nat.Gcd.{IsGcd-swap, IsGcd-from_mod, IsGcd-from_sub, le_of_dvd}
use Rattle.std.proofs.Math.Nat.{one-dvd, dvd_refl, dvd-mul_left_of_dvd, dvd-mul_right_of_dvd, dvd-add_iff_right, mul-dvd-mul_right, div-div-eq-div-mul, div-add-mod', mod-eq_of_lt}
use Rattle.xn_frac.proofs.Coprime.{Bezout, bezout, dvd_other, coprime_product, coprime_divisor}

-- k zeros at the end of a number are k factors 2
low_zeros : (k n : ℕ) → ((i : ℕ) → i < k → bit_at n i ≡ 0) → n / 2 ^ k * 2 ^ k ≡ n
low_zeros zero n none = omega arith
low_zeros (suc k) n none =
    let above : n / 2 ^ k * 2 ^ k ≡ n = low_zeros k n (λ i h. none i (omega arith)) in
    let even : n / 2 ^ k % 2 ≡ 0 = none k (omega arith) in
    let half : n / 2 ^ k / 2 * 2 ≡ n / 2 ^ k = omega (arith, div-add-mod' (n / 2 ^ k) 2) in
    let doubled : 2 ^ suc k ≡ 2 ^ k * 2 = omega arith in
    let next : n / 2 ^ suc k ≡ n / 2 ^ k / 2 = ap (λ t. n / t) doubled ∙ sym (div-div-eq-div-mul n (2 ^ k) 2) in
    ap (λ t. n / 2 ^ suc k * t) doubled ∙ ap (λ t. t * (2 ^ k * 2)) next ∙ omega arith ∙ ap (λ t. t * 2 ^ k) half ∙ above

-- without its factors 2 a number is odd
pub odd_part : (n : ℕ) → 0 < n → n < 2 ^ 64 → (n / 2 ^ trailing_zeros w64 n * 2 ^ trailing_zeros w64 n ≡ n) × (n / 2 ^ trailing_zeros w64 n % 2 ≡ 1)
odd_part n above small =
    let bits = bit_at-trailing_zeros w64 n above small in
    (low_zeros (trailing_zeros w64 n) n bits.2, bits.1)

coprime_two : (o : ℕ) → o % 2 ≡ 1 → IsGcd 2 o 1
coprime_two o odd = IsGcd-swap o 2 1 (IsGcd-from_mod o 2 1 (subst (λ t. IsGcd 2 t 1) (sym odd) (one-dvd 2, dvd_refl 1, λ d in_two in_one. in_one)))

coprime_powers : (k o : ℕ) → o % 2 ≡ 1 → IsGcd (2 ^ k) o 1
coprime_powers zero o odd = (dvd_refl 1, one-dvd o, λ d in_one in_o. in_one)
coprime_powers (suc k) o odd =
    subst (λ t. IsGcd t o 1) (omega arith) (coprime_product (2 ^ k) 2 o (coprime_powers k o odd) (coprime_two o odd))

-- factors 2 of one number are free where the other is odd
pub free_powers : (k o m g : ℕ) → o % 2 ≡ 1 → IsGcd o m g → IsGcd o (m * 2 ^ k) g
free_powers k o m g odd is = (
  is.0,
  dvd-mul_right_of_dvd g is.1 (2 ^ k),
  λ d in_o in_all. is.2 d in_o (dvd_other d (2 ^ k) m (coprime_divisor d o (2 ^ k) (IsGcd-swap (2 ^ k) o 1 (coprime_powers k o odd)) in_o) (subst (λ t. d ∣ t) (omega arith) in_all)),
)

-- one step: the lesser number, and the difference without its factors 2
pub odd_step : (x y k g : ℕ) → x % 2 ≡ 1 → y % 2 ≡ 1 → abs_diff x y / 2 ^ k * 2 ^ k ≡ abs_diff x y → IsGcd (min x y) (abs_diff x y / 2 ^ k) g → IsGcd x y g
odd_step x y k g odd_x odd_y exact is = elim (cases_lt x y) [
  | inl below ↦
      let apart : abs_diff x y ≡ y - x = omega arith in
      let low : min x y ≡ x = omega arith in
      let all : IsGcd x (y - x) g = subst (λ t. IsGcd x t g) (exact ∙ apart) (free_powers k x (abs_diff x y / 2 ^ k) g odd_x (subst (λ t. IsGcd t (abs_diff x y / 2 ^ k) g) low is)) in
      IsGcd-swap y x g (IsGcd-from_sub y x g (omega arith) (IsGcd-swap x (y - x) g all))
  | inr above ↦
      let apart : abs_diff x y ≡ x - y = omega arith in
      let low : min x y ≡ y = omega arith in
      let all : IsGcd y (x - y) g = subst (λ t. IsGcd y t g) (exact ∙ apart) (free_powers k y (abs_diff x y / 2 ^ k) g odd_y (subst (λ t. IsGcd t (abs_diff x y / 2 ^ k) g) low is)) in
      IsGcd-from_sub x y g (omega arith) (IsGcd-swap y (x - y) g all)
]

-- a common factor
times_gcd : (a b g k : ℕ) → IsGcd a b g → IsGcd (a * k) (b * k) (g * k)
times_gcd a b g k is = (mul-dvd-mul_right g is.0 k, mul-dvd-mul_right g is.1 k, λ d in_a in_b. other (bezout b a b (omega arith) g is) d in_a in_b)
  where
    other : Bezout a b g → (d : ℕ) → d ∣ a * k → d ∣ b * k → d ∣ g * k
    other (x, y, inl e) d in_a in_b =
        let sum : x * (a * k) ≡ y * (b * k) + g * k = omega (arith, ap (λ t. t * k) e) in
        (dvd-add_iff_right d (dvd-mul_left_of_dvd d in_b y)).1 (subst (λ n. d ∣ n) sum (dvd-mul_left_of_dvd d in_a x))
    other (x, y, inr e) d in_a in_b =
        let sum : x * (b * k) ≡ y * (a * k) + g * k = omega (arith, ap (λ t. t * k) e) in
        (dvd-add_iff_right d (dvd-mul_left_of_dvd d in_a y)).1 (subst (λ n. d ∣ n) sum (dvd-mul_left_of_dvd d in_b x))

-- the common factors 2 are the lesser number of them
ordered : (u v g m n : ℕ) → u % 2 ≡ 1 → IsGcd u v g → m ≤ n → IsGcd (u * 2 ^ m) (v * 2 ^ n) (g * 2 ^ m)
ordered u v g m n odd is le =
    let split : v * 2 ^ n ≡ v * 2 ^ (n - m) * 2 ^ m = ap (λ t. v * t) (ap (λ t. 2 ^ t) (omega arith) ∙ pow-add 2 (n - m) m) ∙ omega arith in
    subst (λ t. IsGcd (u * 2 ^ m) t (g * 2 ^ m)) (sym split) (times_gcd u (v * 2 ^ (n - m)) g (2 ^ m) (free_powers (n - m) u v g odd is))

pub with_powers : (a b u v g m n : ℕ) → u * 2 ^ m ≡ a → v * 2 ^ n ≡ b → u % 2 ≡ 1 → v % 2 ≡ 1 → IsGcd u v g → IsGcd a b (g * 2 ^ min m n)
with_powers a b u v g m n e f odd_u odd_v is = elim (cases_lt m n) [
  | inl below ↦
      let low : min m n ≡ m = omega arith in
      subst (λ t. IsGcd a b (g * 2 ^ t)) (sym low) (subst (λ t. IsGcd t b (g * 2 ^ m)) e (subst (λ t. IsGcd (u * 2 ^ m) t (g * 2 ^ m)) f (ordered u v g m n odd_u is (omega arith))))
  | inr above ↦
      let low : min m n ≡ n = omega arith in
      subst (λ t. IsGcd a b (g * 2 ^ t)) (sym low) (subst (λ t. IsGcd t b (g * 2 ^ n)) e (subst (λ t. IsGcd (u * 2 ^ m) t (g * 2 ^ n)) f
      (IsGcd-swap (v * 2 ^ n) (u * 2 ^ m) (g * 2 ^ n) (ordered v u g n m odd_v (IsGcd-swap u v g is) (omega arith)))))
]

pub gcd_of_same : (a b : ℕ) → a ≡ b → IsGcd a b a
gcd_of_same a b same = (dvd_refl a, subst (λ t. a ∣ t) same (dvd_refl a), λ d in_a in_b. in_a)

pub min_odd : (m x y : ℕ) → m ≡ min x y → x % 2 ≡ 1 → y % 2 ≡ 1 → m % 2 ≡ 1
min_odd m x y e odd_x odd_y = elim (cases_lt x y) [
  | inl below ↦ let same : m ≡ x = omega arith in subst (λ t. t % 2 ≡ 1) (sym same) odd_x
  | inr above ↦ let same : m ≡ y = omega arith in subst (λ t. t % 2 ≡ 1) (sym same) odd_y
]

-- the result of the shift keeps its bits, since it divides a
pub shifted : (a b g k : ℕ) → 0 < a → a < 2 ^ 64 → 0 < b → b < 2 ^ 64 → k ≡ min (trailing_zeros w64 a) (trailing_zeros w64 b) →
    IsGcd (a / 2 ^ trailing_zeros w64 a) (b / 2 ^ trailing_zeros w64 b) g → IsGcd a b (g * 2 ^ k % 2 ^ 64)
shifted a b g k above_a small_a above_b small_b least is =
    let odd_a : (a / 2 ^ trailing_zeros w64 a * 2 ^ trailing_zeros w64 a ≡ a) × (a / 2 ^ trailing_zeros w64 a % 2 ≡ 1) = odd_part a above_a small_a in
    let odd_b : (b / 2 ^ trailing_zeros w64 b * 2 ^ trailing_zeros w64 b ≡ b) × (b / 2 ^ trailing_zeros w64 b % 2 ≡ 1) = odd_part b above_b small_b in
    let all : IsGcd a b (g * 2 ^ k) = subst (λ t. IsGcd a b (g * 2 ^ t)) (sym least)
    (with_powers a b _ _ g (trailing_zeros w64 a) (trailing_zeros w64 b) odd_a.0 odd_b.0 odd_a.1 odd_b.1 is) in
    let fits : g * 2 ^ k ≤ a = le_of_dvd above_a all.0 in
    subst (IsGcd a b) (sym (mod-eq_of_lt (omega arith))) all

pub gcd_one : (a b : ℕ) → (a ≡ 1) ⊎ (b ≡ 1) → IsGcd a b 1
gcd_one a b (inl e) = (one-dvd a, one-dvd b, λ d in_a in_b. subst (λ t. d ∣ t) e in_a)
gcd_one a b (inr e) = (one-dvd a, one-dvd b, λ d in_a in_b. subst (λ t. d ∣ t) e in_b)
