-- What is in a list of numbers.
use Rattle.std.proofs.Common.{◌≡◌, ℕ, ◌⊎◌, inl, inr, true, false, eqb, List, [], ◌∷◌, ◌++◌, refl, sym}
use Rattle.std.specs.List.{AllByRecursion, IsDistinct}
use Rattle.std.proofs.lemmas.Bool.{cases_Bool, eq-eqb, eqb-true, or_cases, or_left, or_right, both_ways}
use Rattle.std.proofs.lemmas.Map.Keys.{IsDistinct-cons, IsDistinct-head}
use Rattle.xn_model.specs.Lists.{has}

abbrev pub In : ℕ → List ℕ → Type 0
In x xs = has xs x ≡ true

pub in_here : (x y : ℕ) (xs : List ℕ) → x ≡ y → In x (y ∷ xs)
in_here x y xs same = or_left (eqb y x) (has xs x) (eq-eqb y x (sym same))

pub in_later : (x y : ℕ) (xs : List ℕ) → In x xs → In x (y ∷ xs)
in_later x y xs there = or_right (eqb y x) (has xs x) there

pub in_cases : (x y : ℕ) (xs : List ℕ) → In x (y ∷ xs) → (x ≡ y) ⊎ In x xs
in_cases x y xs there = elim (or_cases (eqb y x) (has xs x) there) [
  | inl here ↦ inl (sym (eqb-true y x here))
  | inr later ↦ inr later
]

pub in_none : (x : ℕ) → In x [] → ⊥
in_none x there = both_ways false refl there

pub decide_in : (x : ℕ) (xs : List ℕ) → In x xs ⊎ (In x xs → ⊥)
decide_in x xs = elim (cases_Bool (has xs x)) [
  | inl there ↦ inl there
  | inr free ↦ inr (λ there. both_ways (has xs x) free there)
]

pub in_front : (x : ℕ) (xs ys : List ℕ) → In x xs → In x (xs ++ ys)
in_front x [] ys there = absurd (in_none x there)
in_front x (y ∷ xs) ys there = elim (in_cases x y xs there) [
  | inl here ↦ in_here x y (xs ++ ys) here
  | inr later ↦ in_later x y (xs ++ ys) (in_front x xs ys later)
]

pub in_back : (x : ℕ) (xs ys : List ℕ) → In x ys → In x (xs ++ ys)
in_back x [] ys there = there
in_back x (y ∷ xs) ys there = in_later x y (xs ++ ys) (in_back x xs ys there)

pub in_parts : (x : ℕ) (xs ys : List ℕ) → In x (xs ++ ys) → In x xs ⊎ In x ys
in_parts x [] ys there = inr there
in_parts x (y ∷ xs) ys there = elim (in_cases x y (xs ++ ys) there) [
  | inl here ↦ inl (in_here x y xs here)
  | inr later ↦ elim (in_parts x xs ys later) [
    | inl front ↦ inl (in_later x y xs front)
    | inr back ↦ inr back
  ]
]

differ_all : (x : ℕ) (ys : List ℕ) → (In x ys → ⊥) → AllByRecursion (λ y. eqb x y ≡ false) ys
differ_all x [] none = tt
differ_all x (y ∷ ys) none = (
  elim (cases_Bool (eqb x y)) [
    | inl same ↦ absurd (none (in_here x y ys (eqb-true x y same)))
    | inr other ↦ other
  ],
  differ_all x ys (λ later. none (in_later x y ys later)),
)

none_of_all : (x : ℕ) (ys : List ℕ) → AllByRecursion (λ y. eqb x y ≡ false) ys → In x ys → ⊥
none_of_all x [] h there = in_none x there
none_of_all x (y ∷ ys) h there = elim (in_cases x y ys there) [
  | inl here ↦ both_ways (eqb x y) h.0 (eq-eqb x y here)
  | inr later ↦ none_of_all x ys h.1 later
]

pub distinct_more : (x : ℕ) (xs : List ℕ) → (In x xs → ⊥) → IsDistinct eqb xs → IsDistinct eqb (x ∷ xs)
distinct_more x xs none distinct = IsDistinct-cons eqb x xs (differ_all x xs none) distinct

pub first_apart : (x : ℕ) (xs : List ℕ) → IsDistinct eqb (x ∷ xs) → In x xs → ⊥
first_apart x xs distinct there = none_of_all x xs (IsDistinct-head eqb x xs distinct) there
