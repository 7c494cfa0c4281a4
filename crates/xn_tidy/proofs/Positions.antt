-- Where numbers stand in a list, and in one that goes on from it.
use Rattle.std.proofs.Common.{◌≡◌, ℕ, zero, suc, ◌<◌, inl, inr, true, false, eqb, List, [], ◌∷◌, ◌++◌, length, get_or, refl, sym, ◌∙◌, ap, arith}
use Rattle.std.proofs.lemmas.Bool.{both_ways, cases_eq, cond-true, cond-false, eq-eqb, eqb-true, ne_eqb, or_cases, or_left, or_right}
use Rattle.xn_model.specs.Lists.{at, has, position_in}

-- an entry stands in its list
pub has-get_or : (xs : List ℕ) (k d : ℕ) → k < length xs → has xs (get_or xs k d) ≡ true
has-get_or [] k d low = absurd (omega (arith, low))
has-get_or (x ∷ xs) zero d low = or_left (eqb x x) (has xs x) (eq-eqb x x refl)
has-get_or (x ∷ xs) (suc k) d low = or_right (eqb x (get_or xs k d)) (has xs (get_or xs k d)) (has-get_or xs k d (omega (arith, low)))

pub has-longer : (xs ys : List ℕ) (x : ℕ) → has xs x ≡ true → has (xs ++ ys) x ≡ true
has-longer [] ys x h = absurd (both_ways false refl h)
has-longer (y ∷ xs) ys x h = elim (or_cases (eqb y x) (has xs x) h) [
  | inl here ↦ or_left (eqb y x) (has (xs ++ ys) x) here
  | inr later ↦ or_right (eqb y x) (has (xs ++ ys) x) (has-longer xs ys x later)
]

pub has-last : (xs : List ℕ) (x : ℕ) → has (xs ++ x ∷ []) x ≡ true
has-last [] x = or_left (eqb x x) false (eq-eqb x x refl)
has-last (y ∷ xs) x = or_right (eqb y x) (has (xs ++ x ∷ []) x) (has-last xs x)

-- what stands in a list stands at its position
pub at_position : (xs : List ℕ) (y : ℕ) → has xs y ≡ true → (position_in xs y < length xs) × (at xs (position_in xs y) ≡ y)
at_position [] y h = absurd (both_ways false refl h)
at_position (x ∷ xs) y h = elim (cases_eq x y) [
  | inl here ↦
      let is : position_in (x ∷ xs) y ≡ 0 = cond-true _ _ _ (eq-eqb x y here) in
      (omega (arith, is), ap (at (x ∷ xs)) is ∙ here)
  | inr past ↦
      let is : position_in (x ∷ xs) y ≡ suc (position_in xs y) = cond-false _ _ _ (ne_eqb x y past) in
      let rest = at_position xs y (elim (or_cases (eqb x y) (has xs y) h) [ inl here ↦ absurd (past (eqb-true x y here)) | inr later ↦ later ]) in
      (omega (arith, is, rest.0), ap (at (x ∷ xs)) is ∙ rest.1)
]

-- what has a position before the end stands in the list
pub has_from_position : (xs : List ℕ) (y : ℕ) → position_in xs y < length xs → has xs y ≡ true
has_from_position [] y low = absurd (omega (arith, low))
has_from_position (x ∷ xs) y low = elim (cases_eq x y) [
  | inl here ↦ or_left (eqb x y) (has xs y) (eq-eqb x y here)
  | inr past ↦
      let is : position_in (x ∷ xs) y ≡ suc (position_in xs y) = cond-false _ _ _ (ne_eqb x y past) in
      or_right (eqb x y) (has xs y) (has_from_position xs y (omega (arith, is, low)))
]

-- and keeps its position
pub position-longer : (xs ys : List ℕ) (y : ℕ) → has xs y ≡ true → position_in (xs ++ ys) y ≡ position_in xs y
position-longer [] ys y h = absurd (both_ways false refl h)
position-longer (x ∷ xs) ys y h = elim (cases_eq x y) [
  | inl here ↦ cond-true _ _ _ (eq-eqb x y here) ∙ sym (cond-true _ _ _ (eq-eqb x y here))
  | inr past ↦
      let rest = position-longer xs ys y (elim (or_cases (eqb x y) (has xs y) h) [ inl here ↦ absurd (past (eqb-true x y here)) | inr later ↦ later ]) in
      cond-false _ _ _ (ne_eqb x y past) ∙ ap suc rest ∙ sym (cond-false _ _ _ (ne_eqb x y past))
]

-- what comes last and didn't stand there before
pub position-last : (xs : List ℕ) (y : ℕ) → has xs y ≡ false → position_in (xs ++ y ∷ []) y ≡ length xs
position-last [] y h = cond-true _ _ _ (eq-eqb y y refl)
position-last (x ∷ xs) y h = elim (cases_eq x y) [
  | inl here ↦ absurd (both_ways _ h (or_left (eqb x y) (has xs y) (eq-eqb x y here)))
  | inr past ↦ cond-false _ _ _ (ne_eqb x y past) ∙ ap suc (position-last xs y (rw (ne_eqb x y past) at h))
]
