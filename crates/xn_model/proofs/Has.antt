-- What stands in a list, and where.
use Rattle.std.proofs.Common.{◌≡◌, ◌≢◌, ℕ, zero, suc, ◌+◌, ◌<◌, ◌≤◌, ◌⊎◌, inl, inr, Bool, true, false, ◌&&◌, eqb, List, [], ◌∷◌, ◌++◌, length, refl, sym, ◌∙◌, ap, subst, arith}
use Rattle.std.specs.List.{AllByRecursion, list_any, range_with_len}
use Rattle.std.specs.Prelude.{All, filter, nat_eq}
use Rattle.std.proofs.lemmas.Bool.{both_ways, cases_Bool, cases_lt, eqb-false, eqb-true, eq-eqb, or_cases, or_left, or_right}
use Rattle.std.proofs.lemmas.Map.Views.{any-filter_same}
use Rattle.xn_model.specs.ListLaws.{HasByPlace, HasInJoined}
use Rattle.xn_model.specs.Lists.{at, has, position_in}
use Rattle.xn_model.proofs.Tests.{eqb-flip, neither}

-- ---- one element, and joined lists

pub has-first : (x : ℕ) (xs : List ℕ) → has (x ∷ xs) x ≡ true
has-first x xs = rw (eq-eqb x x refl) refl

pub has-later : (x : ℕ) (xs : List ℕ) (y : ℕ) → has xs y ≡ true → has (x ∷ xs) y ≡ true
has-later x xs y y_in = or_right (eqb x y) (has xs y) y_in

pub has-append : (xs ys : List ℕ) (x : ℕ) → has (xs ++ ys) x ≡ true → (has xs x ≡ true) ⊎ (has ys x ≡ true)
has-append [] ys x h = inr h
has-append (y ∷ xs) ys x h = elim (or_cases (eqb y x) (has (xs ++ ys) x) h) [
  | inl here ↦ inl (or_left (eqb y x) (has xs x) here)
  | inr later ↦ elim (has-append xs ys x later) [ inl a ↦ inl (or_right (eqb y x) (has xs x) a) | inr b ↦ inr b ]
]

pub has-left : (xs ys : List ℕ) (x : ℕ) → has xs x ≡ true → has (xs ++ ys) x ≡ true
has-left [] ys x h = absurd (both_ways false refl h)
has-left (y ∷ xs) ys x h = elim (or_cases (eqb y x) (has xs x) h) [
  | inl here ↦ or_left (eqb y x) (has (xs ++ ys) x) here
  | inr later ↦ or_right (eqb y x) (has (xs ++ ys) x) (has-left xs ys x later)
]

pub has-right : (xs ys : List ℕ) (x : ℕ) → has ys x ≡ true → has (xs ++ ys) x ≡ true
has-right [] ys x h = h
has-right (y ∷ xs) ys x h = or_right (eqb y x) (has (xs ++ ys) x) (has-right xs ys x h)

pub has_in_joined : HasInJoined
has_in_joined xs ys x = (has-append xs ys x, λ s. elim s [ inl a ↦ has-left xs ys x a | inr b ↦ has-right xs ys x b ])

-- ---- places

pub has-at : (xs : List ℕ) (k : ℕ) → k < length xs → has xs (at xs k) ≡ true
has-at [] k below = absurd (omega arith)
has-at (x ∷ xs) zero below = or_left (eqb x x) (has xs x) (eq-eqb x x refl)
has-at (x ∷ xs) (suc k) below = or_right (eqb x (at xs k)) (has xs (at xs k)) (has-at xs k (omega arith))

pub place_of : (xs : List ℕ) (x : ℕ) → has xs x ≡ true → (k : ℕ) × (k < length xs) × (at xs k ≡ x)
place_of [] x h = absurd (both_ways false refl h)
place_of (y ∷ ys) x h = elim (or_cases (eqb y x) (has ys x) h) [
  | inl here ↦ (0, omega arith, eqb-true y x here)
  | inr later ↦ let rest = place_of ys x later in (suc rest.0, omega (arith, rest.1), rest.2)
]

pub has_by_place : HasByPlace
has_by_place xs x = (place_of xs x, λ k. subst (λ y. has xs y ≡ true) k.2 (has-at xs k.0 k.1))

pub position_below : (l : List ℕ) (x : ℕ) → has l x ≡ true → position_in l x < length l
position_below [] x h = absurd (both_ways false refl h)
position_below (y ∷ ys) x h = elim (cases_Bool (eqb y x)) [
  | inl here ↦ rw here (omega arith)
  | inr other ↦ let later : has ys x ≡ true = rw other at h in let low = position_below ys x later in rw other (omega (arith, low))
]

-- ---- what holds of each element

pub all_of : (P : ℕ → Type 0) (xs : List ℕ) → AllByRecursion P xs → (y : ℕ) → has xs y ≡ true → P y
all_of P [] all y h = absurd (both_ways false refl h)
all_of P (x ∷ xs) all y h = elim (or_cases (eqb x y) (has xs y) h) [
  | inl here ↦ subst P (eqb-true x y here) all.0
  | inr later ↦ all_of P xs all.1 y later
]

-- the same, place by place
pub has-all : (P : ℕ → Type 0) (xs : List ℕ) → All P xs → (y : ℕ) → has xs y ≡ true → P y
has-all P [] all y h = absurd (both_ways false refl h)
has-all P (x ∷ xs) all y h = elim (or_cases (eqb x y) (has xs y) h) [
  | inl here ↦ subst P (eqb-true x y here) (all 0 x (omega arith))
  | inr later ↦ has-all P xs (λ k d k_in. all (suc k) d (omega arith)) y later
]

-- a number that isn't in the list is none of its elements
pub unlike_each : (x : ℕ) (xs : List ℕ) → has xs x ≡ false → AllByRecursion (λ y. nat_eq x y ≡ false) xs
unlike_each x [] out = tt
unlike_each x (y ∷ ys) out =
    let parts : (eqb y x ≡ false) × (has ys x ≡ false) = neither (eqb y x) (has ys x) out in
    (eqb-flip x y ∙ parts.0, unlike_each x ys parts.1)

pub all_not : (x : ℕ) (xs : List ℕ) → AllByRecursion (λ y. eqb x y ≡ false) xs → (y : ℕ) → has xs y ≡ true → x ≢ y
all_not x [] all y h same = both_ways false refl h
all_not x (z ∷ zs) all y h same = elim (or_cases (eqb z y) (has zs y) h) [
  | inl here ↦ eqb-false x z all.0 (same ∙ sym (eqb-true z y here))
  | inr later ↦ all_not x zs all.1 y later same
]

-- ---- tests, and ranges

pub any_from : (t : ℕ → Bool) (xs : List ℕ) (x : ℕ) → has xs x ≡ true → t x ≡ true → list_any t xs ≡ true
any_from t [] x h p = absurd (both_ways false refl h)
any_from t (y ∷ ys) x h p = elim (or_cases (eqb y x) (has ys x) h) [
  | inl here ↦ or_left (t y) (list_any t ys) (ap t (eqb-true y x here) ∙ p)
  | inr later ↦ or_right (t y) (list_any t ys) (any_from t ys x later p)
]

pub any_to : (t : ℕ → Bool) (xs : List ℕ) → list_any t xs ≡ true → (x : ℕ) × (has xs x ≡ true) × (t x ≡ true)
any_to t [] h = absurd (both_ways false refl h)
any_to t (y ∷ ys) h = elim (or_cases (t y) (list_any t ys) h) [
  | inl here ↦ (y, has-first y ys, here)
  | inr later ↦ let rest = any_to t ys later in (rest.0, has-later y ys rest.0 rest.1, rest.2)
]

pub has-filter : (p : ℕ → Bool) (xs : List ℕ) (x : ℕ) → has (filter p xs) x ≡ (p x && has xs x)
has-filter p xs x = any-filter_same (λ y. eqb y x) p (p x) (λ y same. ap p (eqb-true y x same)) xs

pub has-range : (a n e : ℕ) → a ≤ e → e < a + n → has (range_with_len a n) e ≡ true
has-range a zero e low high = absurd (omega (arith, low, high))
has-range a (suc n) e low high = elim (cases_lt a e) [
  | inl later ↦ or_right (eqb a e) (has (range_with_len (a + 1) n) e) (has-range (a + 1) n e (omega arith) (omega (arith, high)))
  | inr here ↦ or_left (eqb a e) (has (range_with_len (a + 1) n) e) (eq-eqb a e (omega (arith, low, here)))
]
