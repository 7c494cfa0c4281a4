-- What stands in a list.
use Rattle.std.proofs.Common.{◌≡◌, ℕ, inl, inr, Bool, true, false, eqb, List, [], ◌∷◌, map, refl, sym, ◌∙◌, ap, subst}
use Rattle.std.specs.Prelude.{filter}
use Rattle.std.proofs.lemmas.Bool.{both_ways, cases_Bool, or_cases, or_left, eqb-true}
use Rattle.xn_model.specs.Lists.{has}
pub use Rattle.xn_model.proofs.Has.{has-append, has-first, has-later, has-left, has-right}

pub has-picked : (p : ℕ → Bool) (xs : List ℕ) (y : ℕ) → has (filter p xs) y ≡ true → (has xs y ≡ true) × (p y ≡ true)
has-picked p [] y h = absurd (both_ways false refl h)
has-picked p (x ∷ xs) y h = elim (cases_Bool (p x)) [
  | inl passes ↦ elim (or_cases (eqb x y) (has (filter p xs) y) (rw passes at h)) [
    | inl here ↦ let same : x ≡ y = eqb-true x y here in (subst (λ z. has (x ∷ xs) z ≡ true) same (has-first x xs), ap p (sym same) ∙ passes)
    | inr later ↦ let rest = has-picked p xs y later in (has-later x xs y rest.0, rest.1)
  ]
  | inr fails ↦ let rest = has-picked p xs y (rw fails at h) in (has-later x xs y rest.0, rest.1)
]

pub has-kept : (p : ℕ → Bool) (xs : List ℕ) (x : ℕ) → has xs x ≡ true → p x ≡ true → has (filter p xs) x ≡ true
has-kept p [] x h t = h
has-kept p (y ∷ ys) x h t = elim (or_cases (eqb y x) (has ys x) h) [
  | inl here ↦
      let same : y ≡ x = eqb-true y x here in
      let passes : p y ≡ true = ap p same ∙ t in
      rw passes (or_left (eqb y x) (has (filter p ys) x) here)
  | inr later ↦
      let rest = has-kept p ys x later t in
      elim (cases_Bool (p y)) [
        | inl passes ↦ rw passes (has-later y (filter p ys) x rest)
        | inr fails ↦ rw fails rest
      ]
]

pub has-map : (f : ℕ → ℕ) (xs : List ℕ) (y : ℕ) → has (map f xs) y ≡ true → (x : ℕ) × (has xs x ≡ true) × (f x ≡ y)
has-map f [] y h = absurd (both_ways false refl h)
has-map f (x ∷ xs) y h = elim (or_cases (eqb (f x) y) (has (map f xs) y) h) [
  | inl here ↦ (x, has-first x xs, eqb-true (f x) y here)
  | inr later ↦ let rest = has-map f xs y later in (rest.0, has-later x xs rest.0 rest.1, rest.2)
]
