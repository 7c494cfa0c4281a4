-- What is chosen for each number, lists within lists, and pairs of nodes found by computation.
use Rattle.std.proofs.Common.{◌≡◌, ℕ, zero, suc, ◌+◌, ◌<◌, ◌≤◌, ◌⊎◌, inl, inr, Bool, true, not, cond, ◌&&◌, ◌||◌, eqb, List, [], ◌∷◌, ◌++◌, length, refl, sym, ◌∙◌, ap, arith}
use Rattle.std.specs.Prelude.{slice_index}
use Rattle.std.specs.List.{IsDistinct}
use Rattle.std.proofs.lemmas.Bool.{cases_eq, cases_lt, cases_Bool, and_from, and_parts, both_ways, cond-false, cond-true, eqb-true, eq-eqb, not-false, not-true, not_from_false, or_cases, or_left, or_right}
use Rattle.xn_model.specs.Graph.{ends_at}
use Rattle.xn_model.specs.Lists.{has, one_if}
use Rattle.xn_model.specs.Permutation.{count_below}
use Rattle.xn_ring.proofs.Orbits.{first_below}
use Rattle.xn_model.proofs.Has.{has-at}
use Rattle.xn_kura.proofs.Pairs.{all_below, all_below_at, all_below_from}
use Rattle.xn_kura.proofs.Tally.{count-le_cover, distinct-le}

-- ---- a function from what is chosen for each number below n

module _ (n : ℕ) (P : ℕ → ℕ → Type 0) (each : (q : ℕ) → q < n → (r : ℕ) × P q r) where
  pick : (q : ℕ) → (q < n) ⊎ (n ≤ q) → ℕ
  pick q (inl below) = (each q below).0
  pick q (inr past) = 0

  pub chosen_for : ℕ → ℕ
  chosen_for q = pick q (cases_lt q n)

  picked : (q : ℕ) (h : (q < n) ⊎ (n ≤ q)) → q < n → P q (pick q h)
  unfolding pick
  picked q (inl below) q_in = (each q below).1
  picked q (inr past) q_in = absurd (omega (arith, past, q_in))

  pub is_chosen : (q : ℕ) → q < n → P q (chosen_for q)
  unfolding chosen_for
  is_chosen q q_in = picked q (cases_lt q n) q_in

-- ---- lists

-- a list without repeats is no longer than one that has all of it
pub distinct_within : (n : ℕ) (xs ys : List ℕ) → IsDistinct eqb xs → ((x : ℕ) → has xs x ≡ true → x < n) → ((x : ℕ) → has xs x ≡ true → has ys x ≡ true) → length xs ≤ length ys
distinct_within n xs ys distinct below inside =
    let low = distinct-le n (has xs) xs distinct (λ x h. (below x h, h)) in
    let high = count-le_cover n (has xs) ys (λ x x_in h. inside x h) in
    omega (arith, low, high)

-- the values of b at the numbers below n that pass
pub values_at : (ℕ → ℕ) → ℕ → (ℕ → Bool) → List ℕ
values_at b zero p = []
values_at b (suc n) p = cond (p n) (b n ∷ values_at b n p) (values_at b n p)

pub has-values : (b : ℕ → ℕ) (n : ℕ) (p : ℕ → Bool) (i : ℕ) → i < n → p i ≡ true → has (values_at b n p) (b i) ≡ true
unfolding values_at
has-values b zero p i i_in passes = absurd (omega (arith, i_in))
has-values b (suc n) p i i_in passes = elim (cases_eq i n) [
  | inl last ↦
      let is : values_at b (suc n) p ≡ b n ∷ values_at b n p = cond-true _ _ _ (ap p (sym last) ∙ passes) in
      ap (λ xs. has xs (b i)) is ∙ or_left (eqb (b n) (b i)) (has (values_at b n p) (b i)) (eq-eqb _ _ (ap b (sym last)))
  | inr other ↦
      let rest = has-values b n p i (omega (arith, i_in, other)) passes in
      elim (cases_Bool (p n)) [
        | inl passes_too ↦
            let is : values_at b (suc n) p ≡ b n ∷ values_at b n p = cond-true _ _ _ passes_too in
            ap (λ xs. has xs (b i)) is ∙ or_right (eqb (b n) (b i)) (has (values_at b n p) (b i)) rest
        | inr fails ↦ let is : values_at b (suc n) p ≡ values_at b n p = cond-false _ _ _ fails in ap (λ xs. has xs (b i)) is ∙ rest
      ]
]

pub length-values : (b : ℕ → ℕ) (n : ℕ) (p : ℕ → Bool) → length (values_at b n p) ≡ count_below n p
unfolding values_at
length-values b zero p = refl
length-values b (suc n) p = elim (cases_Bool (p n)) [
  | inl passes ↦
      let is : values_at b (suc n) p ≡ b n ∷ values_at b n p = cond-true _ _ _ passes in
      let one : one_if (p n) ≡ 1 = ap one_if passes in
      omega (arith, ap length is, one, length-values b n p)
  | inr fails ↦
      let is : values_at b (suc n) p ≡ values_at b n p = cond-false _ _ _ fails in
      let none : one_if (p n) ≡ 0 = ap one_if fails in
      omega (arith, ap length is, none, length-values b n p)
]

-- where an element of joined lists stands
pub in_first : (xs ys : List ℕ) (i : ℕ) → i < length xs → has xs (slice_index (xs ++ ys) i) ≡ true
in_first [] ys i i_in = absurd (omega (arith, i_in))
in_first (x ∷ xs) ys zero i_in = or_left (eqb x x) (has xs x) (eq-eqb x x refl)
in_first (x ∷ xs) ys (suc i) i_in = or_right (eqb x (slice_index (xs ++ ys) i)) (has xs (slice_index (xs ++ ys) i)) (in_first xs ys i (omega (arith, i_in)))

pub in_second : (xs ys : List ℕ) (i : ℕ) → length xs ≤ i → i < length xs + length ys → has ys (slice_index (xs ++ ys) i) ≡ true
in_second [] ys i past i_in = has-at ys i (omega (arith, i_in))
in_second (x ∷ xs) ys zero past i_in = absurd (omega (arith, past))
in_second (x ∷ xs) ys (suc i) past i_in = in_second xs ys i (omega (arith, past)) (omega (arith, i_in))

-- ---- which nodes the pairs join

-- the pair is of a and c, either first
abbrev pub IsPairOf : ℕ × ℕ → ℕ → ℕ → Type 0
IsPairOf p a c = ((p.0 ≡ a) × (p.1 ≡ c)) ⊎ ((p.1 ≡ a) × (p.0 ≡ c))

abbrev pub is_pair_of : ℕ × ℕ → ℕ → ℕ → Bool
is_pair_of p a c = (eqb p.0 a && eqb p.1 c) || (eqb p.1 a && eqb p.0 c)

pub pair_of-test : (p : ℕ × ℕ) (a c : ℕ) → is_pair_of p a c ≡ true → IsPairOf p a c
pair_of-test p a c t = elim (or_cases (eqb p.0 a && eqb p.1 c) (eqb p.1 a && eqb p.0 c) t) [
  | inl h ↦ let parts : (eqb p.0 a ≡ true) × (eqb p.1 c ≡ true) = and_parts _ _ h in inl (eqb-true _ _ parts.0, eqb-true _ _ parts.1)
  | inr h ↦ let parts : (eqb p.1 a ≡ true) × (eqb p.0 c ≡ true) = and_parts _ _ h in inr (eqb-true _ _ parts.0, eqb-true _ _ parts.1)
]

pub test-pair_of : (p : ℕ × ℕ) (a c : ℕ) → IsPairOf p a c → is_pair_of p a c ≡ true
test-pair_of p a c (inl h) = or_left (eqb p.0 a && eqb p.1 c) (eqb p.1 a && eqb p.0 c) (and_from _ _ (eq-eqb _ _ h.0) (eq-eqb _ _ h.1))
test-pair_of p a c (inr h) = or_right (eqb p.0 a && eqb p.1 c) (eqb p.1 a && eqb p.0 c) (and_from _ _ (eq-eqb _ _ h.0) (eq-eqb _ _ h.1))

-- some pair is of a and c
abbrev pub joins : List (ℕ × ℕ) → ℕ → ℕ → Bool
joins pairs a c = not (all_below (length pairs) (λ r. not (is_pair_of (ends_at pairs r) a c)))

pub joins-some : (pairs : List (ℕ × ℕ)) (a c : ℕ) → joins pairs a c ≡ true → (r : ℕ) × (r < length pairs) × IsPairOf (ends_at pairs r) a c
joins-some pairs a c t = elim (first_below (length pairs) (λ r. is_pair_of (ends_at pairs r) a c)) [
  | inl found ↦ (found.0, found.1, pair_of-test (ends_at pairs found.0) a c found.2)
  | inr none ↦ absurd (both_ways _ (not-true _ t) (all_below_from (length pairs) (λ r. not (is_pair_of (ends_at pairs r) a c)) (λ r r_in. not_from_false _ (none r r_in))))
]

pub some-joins : (pairs : List (ℕ × ℕ)) (a c r : ℕ) → r < length pairs → IsPairOf (ends_at pairs r) a c → joins pairs a c ≡ true
some-joins pairs a c r r_in is = elim (cases_Bool (joins pairs a c)) [
  | inl t ↦ t
  | inr f ↦
      let all : all_below (length pairs) (λ x. not (is_pair_of (ends_at pairs x) a c)) ≡ true = not-false _ f in
      let none = all_below_at (length pairs) (λ x. not (is_pair_of (ends_at pairs x) a c)) all r r_in in
      absurd (both_ways _ (not-true _ none) (test-pair_of (ends_at pairs r) a c is))
]
