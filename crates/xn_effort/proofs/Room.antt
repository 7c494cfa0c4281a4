-- No more edges can be placed along an edge than there are crossings.
use Rattle.std.proofs.Common.{◌≡◌, ◌≢◌, ℕ, suc, ◌+◌, ◌≤◌, ◌⊎◌, inl, inr, Bool, true, false, ◌&&◌, ◌||◌, eqb, List, [], ◌∷◌, length, refl, sym, ◌∙◌, ap, subst, arith}
use Rattle.std.specs.List.{AllByRecursion, IsDistinct}
use Rattle.std.specs.Prelude.{nat_eq, not}
use Rattle.std.proofs.lemmas.Bool.{both_ways, cases_Bool, and_parts, or_cases, eqb-true, eqb-false, eq-eqb, ne_eqb, or_parts}
use Rattle.xn_model.specs.Graph.{Graph, edges_of, pairs_of}
use Rattle.xn_model.specs.Lists.{has, one_if, total}
use Rattle.xn_kinds.specs.State.{State, Crosses, IsState}
use Rattle.xn_effort.specs.Potential.{is_one, ones_in}
use Rattle.xn_effort.proofs.Changed.{eqb-same}
use Rattle.xn_effort.proofs.Sums.{is_pair, pair_once, same_pair, times, total_one}

-- the pair, one of the list and no other, passes
abbrev IsMarked : List (ℕ × ℕ) → (ℕ × ℕ → Bool) → ℕ → ℕ → Type 0
IsMarked ps test a b = (test (a, b) ≡ true) × (times a b ps ≡ 1)

-- so does the pair of e with y, in either order
abbrev Meets : List (ℕ × ℕ) → (ℕ × ℕ → Bool) → ℕ → ℕ → Type 0
Meets ps test e y = IsMarked ps test e y ⊎ IsMarked ps test y e

EachMeets : List (ℕ × ℕ) → (ℕ × ℕ → Bool) → ℕ → List ℕ → Type 0
EachMeets ps test e [] = Unit {0}
EachMeets ps test e (y ∷ ys) = Meets ps test e y × EachMeets ps test e ys

-- the test without one pair
abbrev without : (ℕ × ℕ → Bool) → ℕ → ℕ → ℕ × ℕ → Bool
without test a b p = test p && not (is_pair a b p)

without_less : (ps : List (ℕ × ℕ)) (test : ℕ × ℕ → Bool) (a b : ℕ) → IsMarked ps test a b → total (λ p. one_if (without test a b p)) ps + 1 ≡ total (λ p. one_if (test p)) ps
without_less ps test a b marked =
    let moved = total_one a b (λ p. one_if (without test a b p)) (λ p. one_if (test p)) (λ p other. ap one_if (kept (test p) (is_pair a b p) other)) ps marked.1 in
    let gone : one_if (without test a b (a, b)) ≡ 0 = ap one_if (dropped (test (a, b)) (is_pair a b (a, b)) (same_pair a b)) in
    omega (arith, moved, gone, ap one_if marked.0)
  where
    kept : (t c : Bool) → c ≡ false → (t && not c) ≡ t
    kept true c other = rw other refl
    kept false c other = refl

    dropped : (t c : Bool) → c ≡ true → (t && not c) ≡ false
    dropped true c here = rw here refl
    dropped false c here = refl

-- another pair still passes
still_marked : (ps : List (ℕ × ℕ)) (test : ℕ × ℕ → Bool) (a b c d : ℕ) → IsMarked ps test c d → is_pair a b (c, d) ≡ false → IsMarked ps (without test a b) c d
still_marked ps test a b c d marked other = (rw (marked.0, other) refl, marked.1)

two_pairs : (a b c d : ℕ) → ((c ≡ a) → (d ≡ b) → ⊥) → is_pair a b (c, d) ≡ false
two_pairs a b c d differ = elim (cases_Bool (eqb c a && eqb d b)) [
  | inl both ↦ let parts : (eqb c a ≡ true) × (eqb d b ≡ true) = and_parts _ _ both in absurd (differ (eqb-true c a parts.0) (eqb-true d b parts.1))
  | inr past ↦ past
]

-- the pairs of e with numbers other than y pass still where that of y is taken away
still_meets : (ps : List (ℕ × ℕ)) (test : ℕ × ℕ → Bool) (e y : ℕ) (a b : ℕ) → ((a ≡ e) × (b ≡ y)) ⊎ ((a ≡ y) × (b ≡ e)) → (zs : List ℕ) →
    AllByRecursion (λ z. nat_eq y z ≡ false) zs → EachMeets ps test e zs → EachMeets ps (without test a b) e zs
unfolding EachMeets
still_meets ps test e y a b is [] other meets = tt
still_meets ps test e y a b is (z ∷ zs) other meets =
    let differ : y ≢ z = eqb-false y z other.0 in
    let rest = still_meets ps test e y a b is zs other.1 meets.1 in
    elim meets.0 [
      | inl marked ↦ (
        inl (still_marked ps test a b e z marked (two_pairs a b e z (λ one two. elim is [
          | inl same ↦ differ (sym same.1 ∙ sym two)
          | inr flip ↦ differ (sym flip.0 ∙ sym one ∙ sym flip.1 ∙ sym two)
        ]))),
        rest,
      )
      | inr marked ↦ (
        inr (still_marked ps test a b z e marked (two_pairs a b z e (λ one two. elim is [
          | inl same ↦ differ (sym same.1 ∙ sym two ∙ sym same.0 ∙ sym one)
          | inr flip ↦ differ (sym flip.0 ∙ sym one)
        ]))),
        rest,
      )
    ]

-- different numbers whose pairs with e pass are no more than the pairs that pass
few_meet : (ps : List (ℕ × ℕ)) (e : ℕ) (ys : List ℕ) (test : ℕ × ℕ → Bool) → IsDistinct nat_eq ys → EachMeets ps test e ys → length ys ≤ total (λ p. one_if (test p)) ps
unfolding IsDistinct EachMeets
few_meet ps e [] test distinct meets = omega arith
few_meet ps e (y ∷ ys) test distinct meets = elim meets.0 [
  | inl marked ↦
      let rest = few_meet ps e ys (without test e y) distinct.1 (still_meets ps test e y e y (inl (refl, refl)) ys distinct.0 meets.1) in
      omega (arith, rest, without_less ps test e y marked)
  | inr marked ↦
      let rest = few_meet ps e ys (without test y e) distinct.1 (still_meets ps test e y y e (inr (refl, refl)) ys distinct.0 meets.1) in
      omega (arith, rest, without_less ps test y e marked)
]

-- a number that isn't in the list is none of its elements
unlike_each : (f : ℕ) (xs : List ℕ) → has xs f ≡ false → AllByRecursion (λ y. nat_eq f y ≡ false) xs
unlike_each f [] out = tt
unlike_each f (x ∷ xs) out =
    let parts : (eqb x f ≡ false) × (has xs f ≡ false) = or_parts _ _ out in
    (ne_eqb f x (λ same. both_ways (eqb x f) parts.0 (eq-eqb x f (sym same))), unlike_each f xs parts.1)

module _ (g : Graph) (s : State) (is_state : IsState g s) (e : ℕ) where
  crossing_meets : (y : ℕ) → Crosses s e y → Meets (pairs_of g.ends (edges_of g)) (λ p. is_one (s.decided p.0 p.1)) e y
  crossing_meets y crosses = elim crosses [
    | inl is ↦ inl (ap is_one is, pair_once g e y (is_state.rises e y true is) (is_state.below e y true is) (is_state.independent e y true is))
    | inr is ↦ inr (ap is_one is, pair_once g y e (is_state.rises y e true is) (is_state.below y e true is) (is_state.independent y e true is))
  ]

  each_meets : (ys : List ℕ) → ((y : ℕ) → has ys y ≡ true → Crosses s e y) → EachMeets (pairs_of g.ends (edges_of g)) (λ p. is_one (s.decided p.0 p.1)) e ys
  unfolding EachMeets
  each_meets [] crosses = tt
  each_meets (y ∷ ys) crosses = (
    crossing_meets y (crosses y (rw (eqb-same y) refl)),
    each_meets ys (λ z z_in. crosses z (later (eqb y z) (has ys z) z_in)),
  )
    where
      later : (a b : Bool) → b ≡ true → (a || b) ≡ true
      later true b h = refl
      later false b h = h

  -- what is placed along e, and one edge more that crosses it, are different crossings
  pub placed_few : (f : ℕ) → Crosses s e f → has (s.placed e) f ≡ false → suc (length (s.placed e)) ≤ ones_in g s
  unfolding IsDistinct
  placed_few f crosses out =
      few_meet (pairs_of g.ends (edges_of g)) e (f ∷ s.placed e) (λ p. is_one (s.decided p.0 p.1)) (unlike_each f (s.placed e) out, is_state.no_repeats e)
      (each_meets (f ∷ s.placed e) (λ y y_in. elim (or_cases (eqb f y) (has (s.placed e) y) y_in) [
        | inl here ↦ subst (Crosses s e) (eqb-true f y here) crosses
        | inr later ↦ is_state.crosses e y later
      ]))
