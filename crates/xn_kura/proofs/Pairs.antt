-- What is used of the pairs of branch nodes, found by computation.
use Rattle.std.proofs.Common.{◌≡◌, ◌≢◌, ℕ, zero, suc, ◌<◌, ◌⊎◌, inl, inr, Bool, true, not, ◌&&◌, ◌||◌, eqb, ltb, List, length, refl, sym, ◌∙◌, ap, arith}
use Rattle.std.proofs.lemmas.Bool.{cases_eq, both_ways, and_from, and_parts, or_cases, or_left, or_right, eqb-true, eqb-false, eq-eqb, ltb-true, not-true, not_from_false}
use Rattle.xn_model.specs.Graph.{ends_at, touches}
use Rattle.xn_ring.proofs.Orbits.{first_below}

-- i is one of the two
abbrev pub IsOneOf : ℕ → ℕ × ℕ → Type 0
IsOneOf i p = (i ≡ p.0) ⊎ (i ≡ p.1)

-- the pairs join nodes below count, each two of them by one pair at most, and each node of a pair is in another pair too
pub record ArePairs (count : ℕ) (pairs : List (ℕ × ℕ)) : Type 0 where
  pub inside : (q : ℕ) → q < length pairs → ((ends_at pairs q).0 < count) × ((ends_at pairs q).1 < count)
  pub loopless : (q : ℕ) → q < length pairs → (ends_at pairs q).0 ≢ (ends_at pairs q).1
  pub single : (q r : ℕ) → q < length pairs → r < length pairs →
      (((ends_at pairs q).0 ≡ (ends_at pairs r).0) × ((ends_at pairs q).1 ≡ (ends_at pairs r).1))
      ⊎ (((ends_at pairs q).0 ≡ (ends_at pairs r).1) × ((ends_at pairs q).1 ≡ (ends_at pairs r).0)) → q ≡ r
  pub other : (q j : ℕ) → q < length pairs → IsOneOf j (ends_at pairs q) →
      (r : ℕ) × (r < length pairs) × (r ≢ q) × IsOneOf j (ends_at pairs r)

-- a test of each number below n
abbrev pub all_below : ℕ → (ℕ → Bool) → Bool
all_below zero p = true
all_below (suc n) p = all_below n p && p n

pub all_below_at : (n : ℕ) (p : ℕ → Bool) → all_below n p ≡ true → (k : ℕ) → k < n → p k ≡ true
all_below_at zero p t k k_in = absurd (omega arith)
all_below_at (suc n) p t k k_in =
    let parts : (all_below n p ≡ true) × (p n ≡ true) = and_parts _ _ t in
    elim (cases_eq k n) [ inl last ↦ ap p last ∙ parts.1 | inr before ↦ all_below_at n p parts.0 k (omega arith) ]

pub all_below_from : (n : ℕ) (p : ℕ → Bool) → ((k : ℕ) → k < n → p k ≡ true) → all_below n p ≡ true
all_below_from zero p each = refl
all_below_from (suc n) p each = and_from _ _ (all_below_from n p (λ k k_in. each k (omega arith))) (each n (omega arith))

module _ (count : ℕ) (pairs : List (ℕ × ℕ)) where
  abbrev n : ℕ
  n = length pairs

  abbrev J : ℕ → ℕ × ℕ
  J q = ends_at pairs q

  abbrev inside_at : ℕ → Bool
  inside_at q = ltb (J q).0 count && ltb (J q).1 count

  abbrev loopless_at : ℕ → Bool
  loopless_at q = not (eqb (J q).0 (J q).1)

  abbrev same_pair : ℕ → ℕ → Bool
  same_pair q r = (eqb (J q).0 (J r).0 && eqb (J q).1 (J r).1) || (eqb (J q).0 (J r).1 && eqb (J q).1 (J r).0)

  abbrev single_at : ℕ → Bool
  single_at q = all_below n (λ r. not (same_pair q r) || eqb q r)

  -- the pair r is another one with j
  abbrev also : ℕ → ℕ → ℕ → Bool
  also q j r = not (eqb r q) && touches (J r) j

  abbrev other_at : ℕ → ℕ → Bool
  other_at q j = not (all_below n (λ r. not (also q j r)))

  -- all this, as a test
  abbrev pub are_pairs : Bool
  are_pairs = all_below n (λ q. inside_at q && (loopless_at q && (single_at q && (other_at q (J q).0 && other_at q (J q).1))))

  single_by : (q r : ℕ) → q < n → r < n → single_at q ≡ true →
      (((J q).0 ≡ (J r).0) × ((J q).1 ≡ (J r).1)) ⊎ (((J q).0 ≡ (J r).1) × ((J q).1 ≡ (J r).0)) → q ≡ r
  single_by q r q_in r_in row same =
      let t : (not (same_pair q r) || eqb q r) ≡ true = all_below_at n (λ y. not (same_pair q y) || eqb q y) row r r_in in
      let pair : same_pair q r ≡ true = elim same [
        | inl h ↦ or_left _ _ (and_from _ _ (eq-eqb _ _ h.0) (eq-eqb _ _ h.1))
        | inr h ↦ or_right (eqb (J q).0 (J r).0 && eqb (J q).1 (J r).1) _ (and_from _ _ (eq-eqb _ _ h.0) (eq-eqb _ _ h.1))
      ] in
      elim (or_cases (not (same_pair q r)) (eqb q r) t) [
        | inl no_pair ↦ absurd (both_ways _ (not-true _ no_pair) pair)
        | inr is ↦ eqb-true q r is
      ]

  other_by : (q j : ℕ) → other_at q j ≡ true → (r : ℕ) × (r < n) × (r ≢ q) × IsOneOf j (J r)
  other_by q j t = elim (first_below n (also q j)) [
    | inl found ↦
        let parts : (not (eqb found.0 q) ≡ true) × (touches (J found.0) j ≡ true) = and_parts _ _ found.2 in (
          found.0,
          found.1,
          eqb-false _ _ (not-true _ parts.0),
          elim (or_cases (eqb (J found.0).0 j) (eqb (J found.0).1 j) parts.1) [
            | inl a ↦ inl (sym (eqb-true _ _ a))
            | inr b ↦ inr (sym (eqb-true _ _ b))
          ],
        )
    | inr none ↦ absurd (both_ways _ (not-true _ t) (all_below_from n (λ r. not (also q j r)) (λ r r_in. not_from_false _ (none r r_in))))
  ]

  record Tested (q : ℕ) : Type 0 where
    inside : ((J q).0 < count) × ((J q).1 < count)
    loopless : (J q).0 ≢ (J q).1
    single : single_at q ≡ true
    first : other_at q (J q).0 ≡ true
    second : other_at q (J q).1 ≡ true

  tested : are_pairs ≡ true → (q : ℕ) → q < n → Tested q
  tested t q q_in =
      let row = all_below_at n (λ x. inside_at x && (loopless_at x && (single_at x && (other_at x (J x).0 && other_at x (J x).1)))) t q q_in in
      let one : (inside_at q ≡ true) × ((loopless_at q && (single_at q && (other_at q (J q).0 && other_at q (J q).1))) ≡ true) = and_parts _ _ row in
      let two : (loopless_at q ≡ true) × ((single_at q && (other_at q (J q).0 && other_at q (J q).1)) ≡ true) = and_parts _ _ one.1 in
      let three : (single_at q ≡ true) × ((other_at q (J q).0 && other_at q (J q).1) ≡ true) = and_parts _ _ two.1 in
      let four : (other_at q (J q).0 ≡ true) × (other_at q (J q).1 ≡ true) = and_parts _ _ three.1 in
      let ends : (ltb (J q).0 count ≡ true) × (ltb (J q).1 count ≡ true) = and_parts _ _ one.0 in
      record {
        inside = (ltb-true _ _ ends.0, ltb-true _ _ ends.1);
        loopless = eqb-false _ _ (not-true _ two.0);
        single = three.0;
        first = four.0;
        second = four.1;
      }

  pub pairs_by_test : are_pairs ≡ true → ArePairs count pairs
  pairs_by_test t = record {
    inside = λ q q_in. (tested t q q_in).inside;
    loopless = λ q q_in. (tested t q q_in).loopless;
    single = λ q r q_in r_in same. single_by q r q_in r_in (tested t q q_in).single same;
    other = λ q j q_in one. elim one [
      | inl e ↦ other_by q j (ap (other_at q) e ∙ (tested t q q_in).first)
      | inr e ↦ other_by q j (ap (other_at q) e ∙ (tested t q q_in).second)
    ];
  }
