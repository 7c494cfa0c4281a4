-- Tests for some number below a bound, and on segments.
use Rattle.std.proofs.Common.{◌≡◌, ℕ, zero, suc, ◌+◌, ◌*◌, ◌/◌, ◌%◌, ◌<◌, inl, inr, Bool, true, false, ◌&&◌, ◌||◌, eqb, refl, sym, ◌∙◌, ap, arith}
use Rattle.std.proofs.lemmas.Bool.{both_ways, cases_eq, or_cases, or_left, or_right}
use Rattle.xn_model.specs.Lists.{one_if}
use Rattle.xn_model.specs.Permutation.{count_below}

-- some number below n passes
abbrev pub some_below : ℕ → (ℕ → Bool) → Bool
some_below zero p = false
some_below (suc n) p = p n || some_below n p

pub some_below-from : (n : ℕ) (p : ℕ → Bool) (j : ℕ) → j < n → p j ≡ true → some_below n p ≡ true
some_below-from zero p j below h = absurd (omega arith)
some_below-from (suc n) p j below h = elim (cases_eq j n) [
  | inl last ↦ or_left (p n) _ (ap p (sym last) ∙ h)
  | inr before ↦ or_right (p n) _ (some_below-from n p j (omega arith) h)
]

pub some_below-to : (n : ℕ) (p : ℕ → Bool) → some_below n p ≡ true → (j : ℕ) × (j < n) × (p j ≡ true)
some_below-to zero p h = absurd (both_ways false refl h)
some_below-to (suc n) p h = elim (or_cases (p n) (some_below n p) h) [
  | inl last ↦ (n, omega arith, last)
  | inr before ↦ let found = some_below-to n p before in (found.0, omega (arith, found.1), found.2)
]

-- a test on segments, as one on their first darts
pub count_below-darts : (m : ℕ) (q : ℕ → Bool) → count_below (2 * m) (λ d. eqb (d % 2) 0 && q (d / 2)) ≡ count_below m q
count_below-darts zero q = refl
count_below-darts (suc m) q =
    let t = λ (d : ℕ). eqb (d % 2) 0 && q (d / 2) in
    let size : 2 * suc m ≡ suc (suc (2 * m)) = omega arith in
    let even : (2 * m) % 2 ≡ 0 = omega arith in
    let even_half : (2 * m) / 2 ≡ m = omega arith in
    let odd : suc (2 * m) % 2 ≡ 1 = omega arith in
    let first : one_if (t (2 * m)) ≡ one_if (q m) = ap (λ x. one_if (eqb x 0 && q ((2 * m) / 2))) even ∙ ap (λ x. one_if (q x)) even_half in
    let second : one_if (t (suc (2 * m))) ≡ 0 = ap (λ x. one_if (eqb x 0 && q (suc (2 * m) / 2))) odd in
    let all : count_below (2 * suc m) t ≡ count_below (2 * m) t + one_if (t (2 * m)) + one_if (t (suc (2 * m))) = ap (λ k. count_below k t) size in
    omega (arith, all, first, second, count_below-darts m q)
