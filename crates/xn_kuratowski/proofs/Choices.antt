-- Webs of which each segment is one of another web, where no two segments have the same ends: they have as many, under other numbers.
use Rattle.std.proofs.Common.{◌≡◌, ℕ, zero, suc, ◌+◌, ◌-◌, ◌<◌, ◌≤◌, ◌⊎◌, inl, inr, Bool, true, ◌&&◌, ◌||◌, cond, eqb, List, [], ◌∷◌, ◌++◌, length, refl, sym, ◌∙◌, ap, subst, arith, length-append}
use Rattle.std.specs.Prelude.{filter}
use Rattle.std.proofs.lemmas.Bool.{and_from, and_parts, both_ways, cases_Bool, cases_eq, cases_lt, cond-true, cond-false, eq-eqb, eqb-true, or_cases, or_left, or_right}
use Rattle.xn_model.specs.Graph.{ends_at, touches}
use Rattle.xn_ring.proofs.Counting.{count-all, count_injects}
use Rattle.xn_fewer.specs.Flat.{IsSelection, SameEnds}
use Rattle.xn_fewer.proofs.Lists.{at_back, at_front}
use Rattle.xn_fewer.proofs.Walks.{filter_to}
use Rattle.xn_kuratowski.specs.Reduction.{HasNoParallels}

-- ---- the same ends

pub same_sym : (p q : ℕ × ℕ) → SameEnds p q → SameEnds q p
same_sym p q (inl same) = inl (sym same.0, sym same.1)
same_sym p q (inr turned) = inr (sym turned.1, sym turned.0)

pub same_trans : (p q r : ℕ × ℕ) → SameEnds p q → SameEnds q r → SameEnds p r
same_trans p q r (inl one) (inl two) = inl (one.0 ∙ two.0, one.1 ∙ two.1)
same_trans p q r (inl one) (inr two) = inr (one.0 ∙ two.0, one.1 ∙ two.1)
same_trans p q r (inr one) (inl two) = inr (one.0 ∙ two.1, one.1 ∙ two.0)
same_trans p q r (inr one) (inr two) = inl (one.0 ∙ two.1, one.1 ∙ two.0)

pub same_is : (p q : ℕ × ℕ) → p ≡ q → SameEnds p q
same_is p q e = inl (ap (λ x. x.0) e, ap (λ x. x.1) e)

pub same_touches : (p q : ℕ × ℕ) → SameEnds p q → (touches p q.0 ≡ true) × (touches p q.1 ≡ true)
same_touches p q (inl same) = (or_left _ _ (eq-eqb _ _ same.0), or_right _ _ (eq-eqb _ _ same.1))
same_touches p q (inr turned) = (or_right _ _ (eq-eqb _ _ turned.1), or_left _ _ (eq-eqb _ _ turned.0))

-- a test
abbrev pub are_same : ℕ × ℕ → ℕ × ℕ → Bool
are_same p q = (eqb p.0 q.0 && eqb p.1 q.1) || (eqb p.0 q.1 && eqb p.1 q.0)

pub are_same-to : (p q : ℕ × ℕ) → are_same p q ≡ true → SameEnds p q
are_same-to p q h = elim (or_cases (eqb p.0 q.0 && eqb p.1 q.1) (eqb p.0 q.1 && eqb p.1 q.0) h) [
  | inl straight ↦ let two : (eqb p.0 q.0 ≡ true) × (eqb p.1 q.1 ≡ true) = and_parts _ _ straight in inl (eqb-true _ _ two.0, eqb-true _ _ two.1)
  | inr turned ↦ let two : (eqb p.0 q.1 ≡ true) × (eqb p.1 q.0 ≡ true) = and_parts _ _ turned in inr (eqb-true _ _ two.0, eqb-true _ _ two.1)
]

pub are_same-from : (p q : ℕ × ℕ) → SameEnds p q → are_same p q ≡ true
are_same-from p q (inl same) = or_left _ _ (and_from _ _ (eq-eqb _ _ same.0) (eq-eqb _ _ same.1))
are_same-from p q (inr turned) = or_right (eqb p.0 q.0 && eqb p.1 q.1) _ (and_from _ _ (eq-eqb _ _ turned.0) (eq-eqb _ _ turned.1))

-- ---- no two segments with the same ends

abbrev pub AreDifferent : List (ℕ × ℕ) → Type 0
AreDifferent ends = (i j : ℕ) → i < length ends → j < length ends → SameEnds (ends_at ends i) (ends_at ends j) → i ≡ j

pub different_from : (ends : List (ℕ × ℕ)) → HasNoParallels ends → AreDifferent ends
different_from ends single i j i_in j_in same = let two = same_touches _ _ same in single i j i_in j_in two.0 two.1

-- each segment of the part is one of the web
abbrev pub AreAmong : List (ℕ × ℕ) → List (ℕ × ℕ) → Type 0
AreAmong part ends = (i : ℕ) → i < length part → (t : ℕ) × (t < length ends) × SameEnds (ends_at part i) (ends_at ends t)

-- the first such segment
abbrev pub find : ℕ → (ℕ → Bool) → ℕ
find zero p = 0
find (suc n) p = cond (p n) n (find n p)

pub find_is : (n : ℕ) (p : ℕ → Bool) (t : ℕ) → t < n → p t ≡ true → (find n p < n) × (p (find n p) ≡ true)
find_is zero p t t_in h = absurd (omega (arith, t_in))
find_is (suc n) p t t_in h = elim (cases_Bool (p n)) [
  | inl here ↦
      let is : find (suc n) p ≡ n = cond-true _ _ _ here in
      (omega (arith, is), ap p is ∙ here)
  | inr not_here ↦
      let is : find (suc n) p ≡ find n p = cond-false _ _ _ not_here in
      let other : t < n = elim (cases_eq t n) [
        | inl same ↦ absurd (both_ways _ not_here (ap p (sym same) ∙ h))
        | inr differ ↦ omega (arith, t_in, differ)
      ] in
      let rest = find_is n p t other h in
      (omega (arith, is, rest.0), ap p is ∙ rest.1)
]

pub choice_among : (part ends : List (ℕ × ℕ)) → AreDifferent part → AreAmong part ends → (σ : ℕ → ℕ) × IsSelection ends part σ
choice_among part ends different among =
    let σ = λ (i : ℕ). find (length ends) (λ t. are_same (ends_at part i) (ends_at ends t)) in
    let right : (i : ℕ) → i < length part → (σ i < length ends) × SameEnds (ends_at part i) (ends_at ends (σ i)) = λ i i_in.
    let some = among i i_in in
    let found = find_is (length ends) (λ t. are_same (ends_at part i) (ends_at ends t)) some.0 some.1 (are_same-from _ _ some.2) in
    (found.0, are_same-to _ _ found.1) in (
      σ,
      record {
        below = λ i i_in. (right i i_in).0;
        apart = λ i j i_in j_in same.
            let P : ℕ → Type 0 = λ t. SameEnds (ends_at part i) (ends_at ends t) in
            different i j i_in j_in (same_trans _ _ _ (subst P same (right i i_in).1) (same_sym _ _ (right j j_in).1));
        same = λ i i_in. (right i i_in).1;
      },
    )

-- a part has no more segments
pub part_no_longer : (part ends : List (ℕ × ℕ)) (σ : ℕ → ℕ) → IsSelection ends part σ → length part ≤ length ends
part_no_longer part ends σ is =
    let few = count_injects (length part) (length ends) (λ i. true) (λ t. true) (λ i t. (i < length part) × (σ i ≡ t))
    (λ i i_in h. (σ i, is.below i i_in, refl, (i_in, refl)))
    (λ i j t i_in j_in one two. is.apart i j one.0 two.0 (one.1 ∙ sym two.1)) in
    omega (arith, few, count-all (length part), count-all (length ends))

-- ---- a filtered web

different_rest : (p : ℕ × ℕ) (ends : List (ℕ × ℕ)) → AreDifferent (p ∷ ends) → AreDifferent ends
different_rest p ends different i j i_in j_in same =
    let e = different (suc i) (suc j) (omega (arith, i_in)) (omega (arith, j_in)) same in omega (arith, e)

pub different_cons : (p : ℕ × ℕ) (ends : List (ℕ × ℕ)) → ((i : ℕ) → i < length ends → SameEnds p (ends_at ends i) → ⊥) → AreDifferent ends → AreDifferent (p ∷ ends)
different_cons p ends new different zero zero i_in j_in same = refl
different_cons p ends new different zero (suc j) i_in j_in same = absurd (new j (omega (arith, j_in)) same)
different_cons p ends new different (suc i) zero i_in j_in same = absurd (new i (omega (arith, i_in)) (same_sym _ _ same))
different_cons p ends new different (suc i) (suc j) i_in j_in same = ap suc (different i j (omega (arith, i_in)) (omega (arith, j_in)) same)

pub different_filter : (t : ℕ × ℕ → Bool) (ends : List (ℕ × ℕ)) → AreDifferent ends → AreDifferent (filter t ends)
different_filter t [] different = λ i j i_in j_in same. absurd (omega (arith, i_in))
different_filter t (p ∷ ends) different =
    let rest = different_filter t ends (different_rest p ends different) in
    elim (cases_Bool (t p)) [
      | inr drops ↦ let is : filter t (p ∷ ends) ≡ filter t ends = rw drops refl in subst AreDifferent (sym is) rest
      | inl keeps ↦
          let is : filter t (p ∷ ends) ≡ p ∷ filter t ends = rw keeps refl in
          subst AreDifferent (sym is) (different_cons p (filter t ends) (λ i i_in same.
          let found = filter_to t ends i i_in in
          let e = different 0 (suc found.0) (omega arith) (omega (arith, found.1)) (same_trans _ _ _ same (same_is _ _ found.2)) in
          omega (arith, e)) rest)
    ]

-- a place in the first list or in the second
pub split_place : (xs ys : List (ℕ × ℕ)) (i : ℕ) → i < length (xs ++ ys) →
    ((i < length xs) × (ends_at (xs ++ ys) i ≡ ends_at xs i)) ⊎ ((j : ℕ) × (j < length ys) × (ends_at (xs ++ ys) i ≡ ends_at ys j))
split_place xs ys i i_in = elim (cases_lt i (length xs)) [
  | inl front ↦ inl (front, at_front xs ys i front)
  | inr back ↦
      let j = i - length xs in
      let is : i ≡ length xs + j = omega (arith, back) in
      inr (j, omega (arith, i_in, length-append xs ys, back), ap (ends_at (xs ++ ys)) is ∙ at_back xs ys j)
]

-- two lists without a common segment
pub different_append : (xs ys : List (ℕ × ℕ)) → AreDifferent xs → AreDifferent ys → ((i j : ℕ) → i < length xs → j < length ys → SameEnds (ends_at xs i) (ends_at ys j) → ⊥) → AreDifferent (xs ++ ys)
different_append [] ys one two apart = two
different_append (x ∷ xs) ys one two apart =
    different_cons x (xs ++ ys) (λ i i_in same. elim (split_place xs ys i i_in) [
      | inl front ↦
          let e = one 0 (suc i) (omega arith) (omega (arith, front.0)) (same_trans _ _ _ same (same_is _ _ front.1)) in omega (arith, e)
      | inr back ↦ apart 0 back.0 (omega arith) back.1 (same_trans _ _ _ same (same_is _ _ back.2))
    ]) (different_append xs ys (different_rest x xs one) two (λ i j i_in j_in. apart (suc i) j (omega (arith, i_in)) j_in))
