-- How many numbers pass a test.
use Rattle.std.proofs.Common.{◌≡◌, ◌≢◌, ℕ, zero, suc, ◌+◌, ◌<◌, ◌≤◌, inl, inr, Bool, true, false, not, cond, ◌&&◌, eqb, refl, sym, ◌∙◌, ap, ap₂, subst, arith}
use Rattle.std.proofs.lemmas.Bool.{cases_eq, cases_Bool, cond-true, cond-false, eq-eqb, ne_eqb}
use Rattle.xn_model.specs.Lists.{one_if}
use Rattle.xn_model.specs.Permutation.{count_below}
pub use Rattle.xn_model.proofs.Tests.{same_tests}

-- tests that agree below n count the same
pub count-same : (n : ℕ) (p q : ℕ → Bool) → ((d : ℕ) → d < n → p d ≡ q d) → count_below n p ≡ count_below n q
count-same zero p q same = refl
count-same (suc n) p q same =
    ap₂ ◌+◌ (count-same n p q (λ d below. same d (omega arith))) (ap one_if (same n (omega arith)))

-- a test that fails at m alone, where the other passes, counts one less
pub count-differs : (n : ℕ) (p q : ℕ → Bool) (m : ℕ) → m < n → p m ≡ true → q m ≡ false → ((d : ℕ) → d < n → d ≢ m → p d ≡ q d) → count_below n p ≡ suc (count_below n q)
count-differs zero p q m in_range yes_p no_q same = absurd (omega arith)
count-differs (suc n) p q m in_range yes_p no_q same = elim (cases_eq m n) [
  | inl last ↦
      let low = count-same n p q (λ d below. same d (omega arith) (λ e. omega arith)) in
      let p_last : one_if (p n) ≡ 1 = ap (λ x. one_if (p x)) (sym last) ∙ ap one_if yes_p in
      let q_last : one_if (q n) ≡ 0 = ap (λ x. one_if (q x)) (sym last) ∙ ap one_if no_q in
      omega (arith, low, p_last, q_last)
  | inr before ↦
      let low = count-differs n p q m (omega arith) yes_p no_q (λ d below other. same d (omega arith) other) in
      let last : one_if (p n) ≡ one_if (q n) = ap one_if (same n (omega arith) (λ e. before (sym e))) in
      omega (arith, low, last)
]

-- all numbers below b pass
pub count-all : (b : ℕ) → count_below b (λ t. true) ≡ b
count-all zero = refl
count-all (suc b) = let e = count-all b in omega (arith, e)

-- none does
pub count-none : (n : ℕ) (p : ℕ → Bool) → ((d : ℕ) → d < n → p d ≡ false) → count_below n p ≡ 0
count-none zero p none = refl
count-none (suc n) p none =
    let low = count-none n p (λ d below. none d (omega arith)) in
    let last : one_if (p n) ≡ 0 = ap one_if (none n (omega arith)) in
    omega (arith, low, last)

-- what passes p passes q too, or not
pub count-parts : (n : ℕ) (p q : ℕ → Bool) → count_below n p ≡ count_below n (λ d. p d && q d) + count_below n (λ d. p d && not (q d))
count-parts zero p q = refl
count-parts (suc n) p q =
    let low = count-parts n p q in
    let last = one_of (p n) (q n) in
    omega (arith, low, last)
  where
    one_of : (x y : Bool) → one_if x ≡ one_if (x && y) + one_if (x && not y)
    one_of true true = refl
    one_of true false = refl
    one_of false y = refl

-- p, but not t
abbrev but : ℕ → (ℕ → Bool) → ℕ → Bool
but t p x = cond (eqb x t) false (p x)

-- what passes a test, sent to different numbers that pass another, is no more
pub count_injects : (n k : ℕ) (p q : ℕ → Bool) (M : ℕ → ℕ → Type 0)
    → ((d : ℕ) → d < n → p d ≡ true → (t : ℕ) × (t < k) × (q t ≡ true) × M d t)
    → ((d e t : ℕ) → d < n → e < n → M d t → M e t → d ≡ e)
    → count_below n p ≤ count_below k q
count_injects zero k p q M into apart = omega arith
count_injects (suc n) k p q M into apart = elim (cases_Bool (p n)) [
  | inl passes_n ↦
      let to = into n (omega arith) passes_n in
      let t = to.0 in
      let one : count_below k q ≡ suc (count_below k (but t q)) =
      count-differs k q (but t q) t to.1 to.2 (cond-true _ _ _ (eq-eqb t t refl)) (λ d below other. sym (cond-false _ _ _ (ne_eqb d t other))) in
      let rest : count_below n p ≤ count_below k (but t q) = count_injects n k p (but t q) M
      (λ d below passes.
      let there = into d (omega arith) passes in (
        there.0,
        there.1,
        elim (cases_eq there.0 t) [
          | inl same ↦
              let P : ℕ → Type 0 = λ x. M d x in
              let M_d : M d t = subst P same there.3 in
              let e : d ≡ n = apart d n t (omega arith) (omega arith) M_d to.3 in
              absurd (omega (arith, e))
          | inr other ↦ cond-false _ _ _ (ne_eqb there.0 t other) ∙ there.2
        ],
        there.3,
      ))
      (λ d e s d_in e_in. apart d e s (omega arith) (omega arith)) in
      let last : one_if (p n) ≡ 1 = ap one_if passes_n in
      omega (arith, one, rest, last)
  | inr fails_n ↦
      let rest : count_below n p ≤ count_below k q = count_injects n k p q M (λ d below. into d (omega arith)) (λ d e s d_in e_in. apart d e s (omega arith) (omega arith)) in
      let last : one_if (p n) ≡ 0 = ap one_if fails_n in
      omega (arith, rest, last)
]
