-- How many numbers pass, by lists of them.
use Rattle.std.proofs.Common.{◌≡◌, ℕ, zero, suc, ◌+◌, ◌*◌, ◌<◌, ◌≤◌, inl, inr, Bool, true, false, not, ◌&&◌, eqb, List, [], ◌∷◌, ◌++◌, length, refl, sym, ◌∙◌, ap, arith}
use Rattle.std.specs.List.{AllByRecursion, IsDistinct, filter}
use Rattle.std.proofs.lemmas.Bool.{cases_lt, cases_Bool, both_ways, and_from, and_parts, or_cases, or_left, or_right, eqb-true, eq-eqb, ne_eqb, not_from_false, not-true, cond-true, cond-false}
use Rattle.xn_model.specs.Lists.{has, one_if}
use Rattle.xn_model.specs.Permutation.{count_below}
use Rattle.xn_ring.proofs.Counting.{count-none, count-same}
use Rattle.xn_genus.proofs.Counts.{count_below-drop}

-- how many elements pass
abbrev pub count_if : (ℕ → Bool) → List ℕ → ℕ
count_if p [] = 0
count_if p (x ∷ xs) = one_if (p x) + count_if p xs

-- elements that differ and pass are at most the count
pub distinct-le : (n : ℕ) (p : ℕ → Bool) (xs : List ℕ) → IsDistinct eqb xs → ((x : ℕ) → has xs x ≡ true → (x < n) × (p x ≡ true)) → length xs ≤ count_below n p
unfolding IsDistinct
distinct-le n p [] distinct each = omega arith
distinct-le n p (x ∷ xs) distinct each =
    let here = each x (or_left (eqb x x) (has xs x) (eq-eqb x x refl)) in
    let drop = count_below-drop n p x here.0 in
    let one : one_if (p x) ≡ 1 = ap one_if here.1 in
    let rest = distinct-le n (λ w. p w && not (eqb x w)) xs distinct.1 (λ y y_in.
    let there = each y (or_right (eqb x y) (has xs y) y_in) in
    (there.0, and_from _ _ there.1 (not_from_false _ (all_at xs distinct.0 y y_in)))) in
    omega (arith, drop, one, rest)
  where
    all_at : (xs : List ℕ) → AllByRecursion (λ y. eqb x y ≡ false) xs → (y : ℕ) → has xs y ≡ true → eqb x y ≡ false
    all_at [] all y h = absurd (both_ways false refl h)
    all_at (z ∷ zs) all y h = elim (or_cases (eqb z y) (has zs y) h) [
      | inl same ↦ ap (eqb x) (sym (eqb-true z y same)) ∙ all.0
      | inr later ↦ all_at zs all.1 y later
    ]

-- a count is at most the length of a list that has all that passes
pub count-le_cover : (n : ℕ) (p : ℕ → Bool) (xs : List ℕ) → ((x : ℕ) → x < n → p x ≡ true → has xs x ≡ true) → count_below n p ≤ length xs
count-le_cover n p [] cover = let none = count-none n p (λ x x_in. elim (cases_Bool (p x)) [ inl t ↦ absurd (both_ways false refl (cover x x_in t)) | inr f ↦ f ]) in omega (arith, none)
count-le_cover n p (x ∷ xs) cover =
    let rest = count-le_cover n (λ w. p w && not (eqb x w)) xs (λ y y_in t.
    let parts : (p y ≡ true) × (not (eqb x y) ≡ true) = and_parts _ _ t in
    elim (or_cases (eqb x y) (has xs y) (cover y y_in parts.0)) [
      | inl same ↦ absurd (both_ways _ (not-true _ parts.1) same)
      | inr later ↦ later
    ]) in
    let at_most : (b : Bool) → one_if b ≤ 1 = λ b. elim b as (λ c. one_if c ≤ 1) [ true ↦ omega arith | false ↦ omega arith ] in
    elim (cases_lt x n) [
      | inl x_in ↦ omega (arith, rest, count_below-drop n p x x_in, at_most (p x))
      | inr past ↦
          let same = count-same n p (λ w. p w && not (eqb x w)) (λ w w_in. sym (ap (λ b. p w && not b) (ne_eqb x w (λ e. omega arith)) ∙ and-true (p w))) in
          omega (arith, rest, same)
    ]
  where
    and-true : (b : Bool) → (b && true) ≡ b
    and-true true = refl
    and-true false = refl

-- a test of even numbers alone
pub count-even : (k : ℕ) (p : ℕ → Bool) (q : ℕ → Bool) → ((s : ℕ) → s < k → p (2 * s) ≡ true → q s ≡ true) → ((s : ℕ) → s < k → p (2 * s + 1) ≡ false) → count_below (2 * k) p ≤ count_below k q
count-even zero p q even odd = omega arith
count-even (suc k) p q even odd =
    let more : 2 * suc k ≡ suc (suc (2 * k)) = omega arith in
    let unfold_it : count_below (2 * suc k) p ≡ count_below (2 * k) p + one_if (p (2 * k)) + one_if (p (suc (2 * k))) = ap (λ n. count_below n p) more in
    let next_is : 2 * k + 1 ≡ suc (2 * k) = omega arith in
    let none : one_if (p (suc (2 * k))) ≡ 0 = ap one_if (ap p (sym next_is) ∙ odd k (omega arith)) in
    let top : one_if (p (2 * k)) ≤ one_if (q k) = le_bits _ _ (even k (omega arith)) in
    omega (arith, count-even k p q (λ s s_in. even s (omega arith)) (λ s s_in. odd s (omega arith)), unfold_it, none, top)
  where
    le_bits : (a b : Bool) → (a ≡ true → b ≡ true) → one_if a ≤ one_if b
    le_bits true b h = let e : one_if b ≡ 1 = ap one_if (h refl) in omega arith
    le_bits false b h = omega arith

pub count_if-append : (p : ℕ → Bool) (xs ys : List ℕ) → count_if p (xs ++ ys) ≡ count_if p xs + count_if p ys
count_if-append p [] ys = omega arith
count_if-append p (x ∷ xs) ys = omega (arith, count_if-append p xs ys)

-- a cover of what passes
pub count-le_count_if : (n : ℕ) (p : ℕ → Bool) (xs : List ℕ) → ((x : ℕ) → x < n → p x ≡ true → has xs x ≡ true) → count_below n p ≤ count_if p xs
count-le_count_if n p xs cover = omega (arith, count-le_cover n p (filter p xs) (λ x x_in t. has-filter xs x (cover x x_in t) t), length-filter xs)
  where
    has-filter : (xs : List ℕ) (x : ℕ) → has xs x ≡ true → p x ≡ true → has (filter p xs) x ≡ true
    has-filter [] x h t = h
    has-filter (y ∷ ys) x h t = elim (or_cases (eqb y x) (has ys x) h) [
      | inl here ↦
          let passes : p y ≡ true = ap p (eqb-true y x here) ∙ t in
          let is : filter p (y ∷ ys) ≡ y ∷ filter p ys = cond-true _ _ _ passes in
          ap (λ zs. has zs x) is ∙ or_left (eqb y x) (has (filter p ys) x) here
      | inr later ↦
          let rest = has-filter ys x later t in
          elim (cases_Bool (p y)) [
            | inl passes ↦ let is : filter p (y ∷ ys) ≡ y ∷ filter p ys = cond-true _ _ _ passes in ap (λ zs. has zs x) is ∙ or_right (eqb y x) (has (filter p ys) x) rest
            | inr fails ↦ let is : filter p (y ∷ ys) ≡ filter p ys = cond-false _ _ _ fails in ap (λ zs. has zs x) is ∙ rest
          ]
    ]

    length-filter : (xs : List ℕ) → length (filter p xs) ≡ count_if p xs
    length-filter [] = refl
    length-filter (y ∷ ys) = elim (cases_Bool (p y)) [
      | inl passes ↦
          let is : filter p (y ∷ ys) ≡ y ∷ filter p ys = cond-true _ _ _ passes in
          let one : one_if (p y) ≡ 1 = ap one_if passes in
          ap length is ∙ omega (arith, one, length-filter ys)
      | inr fails ↦
          let is : filter p (y ∷ ys) ≡ filter p ys = cond-false _ _ _ fails in
          let none : one_if (p y) ≡ 0 = ap one_if fails in
          ap length is ∙ omega (arith, none, length-filter ys)
    ]
