-- Lists without repeats, and membership in them.
use Rattle.std.proofs.Common.{◌≡◌, ◌≢◌, ℕ, zero, suc, ◌<◌, ◌≤◌, inl, inr, false, true, eqb, List, [], ◌∷◌, ◌++◌, length, refl, sym, ◌∙◌, ap, arith}
use Rattle.std.specs.List.{AllByRecursion, IsDistinct}
use Rattle.std.specs.Prelude.{slice_index}
use Rattle.std.proofs.lemmas.Bool.{cases_eq, both_ways, or_cases, or_left, or_right, eqb-true, eq-eqb, ne_eqb}
use Rattle.xn_model.specs.Lists.{has, one_if}
use Rattle.xn_model.proofs.Has.{all_not, has-at, has-right}
use Rattle.xn_kura.proofs.Tally.{count_if}

pub distinct-left : (xs ys : List ℕ) → IsDistinct eqb (xs ++ ys) → IsDistinct eqb xs
unfolding IsDistinct
distinct-left [] ys d = tt
distinct-left (x ∷ xs) ys d = (fronts xs d.0, distinct-left xs ys d.1)
  where
    fronts : (zs : List ℕ) → AllByRecursion (λ y. eqb x y ≡ false) (zs ++ ys) → AllByRecursion (λ y. eqb x y ≡ false) zs
    fronts [] all = tt
    fronts (z ∷ zs) all = (all.0, fronts zs all.1)

pub distinct-right : (xs ys : List ℕ) → IsDistinct eqb (xs ++ ys) → IsDistinct eqb ys
unfolding IsDistinct
distinct-right [] ys d = d
distinct-right (x ∷ xs) ys d = distinct-right xs ys d.1

pub distinct-apart : (xs ys : List ℕ) → IsDistinct eqb (xs ++ ys) → (x : ℕ) → has xs x ≡ true → has ys x ≡ true → ⊥
unfolding IsDistinct
distinct-apart [] ys d x a b = both_ways false refl a
distinct-apart (y ∷ xs) ys d x a b = elim (or_cases (eqb y x) (has xs x) a) [
  | inl here ↦ all_not y (xs ++ ys) d.0 x (has-right xs ys x b) (eqb-true _ _ here)
  | inr later ↦ distinct-apart xs ys d.1 x later b
]

pub distinct-count : (xs : List ℕ) (w : ℕ) → IsDistinct eqb xs → count_if (λ x. eqb x w) xs ≤ 1
unfolding IsDistinct
distinct-count [] w d = omega arith
distinct-count (x ∷ xs) w d =
    let rest = distinct-count xs w d.1 in
    elim (cases_eq x w) [
      | inl here ↦
          let one : one_if (eqb x w) ≡ 1 = ap one_if (eq-eqb _ _ here) in
          let none : count_if (λ y. eqb y w) xs ≡ 0 = absent xs (λ y y_in e. all_not x xs d.0 y y_in (here ∙ sym e)) in
          omega (arith, one, none)
      | inr other ↦
          let none : one_if (eqb x w) ≡ 0 = ap one_if (ne_eqb _ _ other) in
          omega (arith, none, rest)
    ]
  where
    absent : (ys : List ℕ) → ((y : ℕ) → has ys y ≡ true → y ≢ w) → count_if (λ y. eqb y w) ys ≡ 0
    absent [] never = refl
    absent (y ∷ ys) never =
        let top : one_if (eqb y w) ≡ 0 = ap one_if (ne_eqb _ _ (never y (or_left (eqb y y) (has ys y) (eq-eqb y y refl)))) in
        omega (arith, top, absent ys (λ z z_in. never z (or_right (eqb y z) (has ys z) z_in)))

-- distinct elements stand at one place each
pub positions_apart : (xs : List ℕ) → IsDistinct eqb xs → (i j : ℕ) → i < length xs → j < length xs → slice_index xs i ≡ slice_index xs j → i ≡ j
unfolding IsDistinct
positions_apart [] d i j i_in j_in same = absurd (omega arith)
positions_apart (x ∷ xs) d zero zero i_in j_in same = refl
positions_apart (x ∷ xs) d zero (suc j) i_in j_in same = absurd (all_not x xs d.0 (slice_index xs j) (has-at xs j (omega arith)) same)
positions_apart (x ∷ xs) d (suc i) zero i_in j_in same = absurd (all_not x xs d.0 (slice_index xs i) (has-at xs i (omega arith)) (sym same))
positions_apart (x ∷ xs) d (suc i) (suc j) i_in j_in same = ap suc (positions_apart xs d.1 i j (omega arith) (omega arith) same)
