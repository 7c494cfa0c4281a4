-- A swap of two successors joins two cycles into one, or splits one into two.
use Rattle.std.proofs.Common.{◌≡◌, ◌≢◌, ℕ, zero, suc, ◌+◌, ◌-◌, ◌<◌, ◌≤◌, ◌⊎◌, inl, inr, eqb, List, length, swap, refl, sym, ◌∙◌, ap, subst, arith}
use Rattle.std.proofs.lemmas.Bool.{eqb-true, eqb-false, cases_eq, cases_order, false_from_ne_true}
use Rattle.xn_model.specs.Lists.{at}
use Rattle.xn_model.specs.Permutation.{Permutes, iterate, is_least, cycle_count, Reaches, IsSplice}
use Rattle.xn_model.proofs.Tests.{same_tests}
use Rattle.xn_ring.proofs.Orbits.{iterate-add, iterate_below, comes_back, first_below, reaches_back, reaches_trans, reaches_step, reaches_below, IsLeast, IsLeast-from_test, test-from_IsLeast, least_of, least_unique}
use Rattle.xn_ring.proofs.Counting.{count-differs}
use Rattle.xn_ring.proofs.Inverse.{at-swap}
use Rattle.xn_ring.specs.Swaps.{JoinsCycles}

-- a swap undone is a swap
pub splice_undone : (n a b : ℕ) (f g : ℕ → ℕ) → IsSplice n a b f g → IsSplice n a b g f
splice_undone n a b f g s = record { first = sym s.second; second = sym s.first; others = λ d below x y. sym (s.others d below x y) }

-- a swap of b and a is one of a and b
pub splice_turned : (n a b : ℕ) (f g : ℕ → ℕ) → IsSplice n a b f g → IsSplice n b a f g
splice_turned n a b f g s = record { first = s.second; second = s.first; others = λ d below x y. s.others d below y x }

-- a swap of a successor with itself changes nothing
pub splice_same : (n a : ℕ) (f g : ℕ → ℕ) → IsSplice n a a f g → (d : ℕ) → d < n → g d ≡ f d
splice_same n a f g s d d_in = elim (cases_eq d a) [
  | inl at_a ↦ ap g at_a ∙ s.first ∙ ap f (sym at_a)
  | inr not_a ↦ s.others d d_in not_a not_a
]

-- where the number at d comes from
module _ (n a b : ℕ) (f g : ℕ → ℕ) (permutes : Permutes n f) (s : IsSplice n a b f g) (a_in : a < n) (b_in : b < n) where
  source : (d : ℕ) → d < n → (c : ℕ) × (c < n) × (g d ≡ f c) × (((d ≡ a) × (c ≡ b)) ⊎ (((d ≡ b) × (c ≡ a)) ⊎ ((d ≢ a) × (d ≢ b) × (c ≡ d))))
  source d in_range = elim (cases_eq d a) [
    | inl at_a ↦ (b, b_in, ap g at_a ∙ s.first, inl (at_a, refl))
    | inr not_a ↦ elim (cases_eq d b) [
      | inl at_b ↦ (a, a_in, ap g at_b ∙ s.second, inr (inl (at_b, refl)))
      | inr not_b ↦ (d, in_range, s.others d in_range not_a not_b, inr (inr (not_a, not_b, refl)))
    ]
  ]

  -- a swap leaves a permutation
  pub Permutes-splice : Permutes n g
  Permutes-splice = record {
    below = λ d in_range. let c = source d in_range in omega (arith, c.2, permutes.below c.0 c.1);
    apart = λ d e d_in e_in same.
        let c = source d d_in in
        let k = source e e_in in
        let one : c.0 ≡ k.0 = permutes.apart c.0 k.0 c.1 k.1 (sym c.2 ∙ same ∙ k.2) in
        omega (arith, one, c.3, k.3);
  }

module _ (n a b : ℕ) (f g : ℕ → ℕ) (f_permutes : Permutes n f) (g_permutes : Permutes n g) (s : IsSplice n a b f g) (a_in : a < n) (b_in : b < n) (apart : Reaches f a b → ⊥) where
  -- the new walk from a runs along the old cycle of b
  runs_along : (k : ℕ) → (iterate g (suc k) a ≡ iterate f (suc k) b) ⊎ Reaches g a b
  runs_along zero = inl s.first
  runs_along (suc k) = elim (runs_along k) [
    | inr there ↦ inr there
    | inl along ↦
        let x = iterate f (suc k) b in
        let x_in : x < n = iterate_below n f f_permutes (suc k) b b_in in
        elim (cases_eq x b) [
          | inl at_b ↦ inr (suc k, along ∙ at_b)
          | inr not_b ↦ inl (ap g along ∙ s.others x x_in (λ at_a. apart (reaches_back n f f_permutes b a b_in (suc k, at_a))) not_b)
        ]
  ]

  pub joined : Reaches g a b
  joined =
      let round = comes_back n f f_permutes b b_in in
      elim (runs_along round.0) [
        | inr there ↦ there
        | inl along ↦ (suc round.0, along ∙ round.2)
      ]

  -- each old walk stays in one new cycle
  pub kept : (d : ℕ) → d < n → (k : ℕ) → Reaches g d (iterate f k d)
  kept d in_range zero = (0, refl)
  kept d in_range (suc k) =
      let x = iterate f k d in
      let x_in : x < n = iterate_below n f f_permutes k d in_range in
      let there = kept d in_range k in
      elim (cases_eq x a) [
        | inl at_a ↦
            let at : Reaches g d a = (there.0, there.1 ∙ at_a) in
            let on = reaches_step g d b (reaches_trans g d a b at joined) in
            (on.0, on.1 ∙ s.second ∙ ap f (sym at_a))
        | inr not_a ↦ elim (cases_eq x b) [
          | inl at_b ↦
              let at : Reaches g d b = (there.0, there.1 ∙ at_b) in
              let on = reaches_step g d a (reaches_trans g d b a at (reaches_back n g g_permutes a b a_in joined)) in
              (on.0, on.1 ∙ s.first ∙ ap f (sym at_b))
          | inr not_b ↦
              let on = reaches_step g d x there in
              (on.0, on.1 ∙ s.others x x_in not_a not_b)
        ]
      ]

  pub kept_to : (d e : ℕ) → d < n → Reaches f d e → Reaches g d e
  kept_to d e in_range there = let on = kept d in_range there.0 in (on.0, on.1 ∙ there.1)

  -- each new walk stays in one old cycle, or in the two
  pub merged : (d : ℕ) → d < n → (k : ℕ) → Reaches f d (iterate g k d) ⊎ ((Reaches f d a × Reaches f b (iterate g k d)) ⊎ (Reaches f d b × Reaches f a (iterate g k d)))
  merged d in_range zero = inl (0, refl)
  merged d in_range (suc k) =
      let x = iterate g k d in
      let x_in : x < n = iterate_below n g g_permutes k d in_range in
      let before = merged d in_range k in
      elim (cases_eq x a) [
        | inl at_a ↦
            let to : f b ≡ g x = sym s.first ∙ ap g (sym at_a) in
            elim before [
              | inl there ↦ inr (inl ((there.0, there.1 ∙ at_a), (1, to)))
              | inr (inl pair) ↦ inr (inl (pair.0, (1, to)))
              | inr (inr pair) ↦ inl (suc pair.0.0, ap f pair.0.1 ∙ to)
            ]
        | inr not_a ↦ elim (cases_eq x b) [
          | inl at_b ↦
              let to : f a ≡ g x = sym s.second ∙ ap g (sym at_b) in
              elim before [
                | inl there ↦ inr (inr ((there.0, there.1 ∙ at_b), (1, to)))
                | inr (inl pair) ↦ inl (suc pair.0.0, ap f pair.0.1 ∙ to)
                | inr (inr pair) ↦ inr (inr (pair.0, (1, to)))
              ]
          | inr not_b ↦
              let to : f x ≡ g x = sym (s.others x x_in not_a not_b) in
              elim before [
                | inl there ↦ inl (suc there.0, ap f there.1 ∙ to)
                | inr (inl pair) ↦ inr (inl (pair.0, (suc pair.1.0, ap f pair.1.1 ∙ to)))
                | inr (inr pair) ↦ inr (inr (pair.0, (suc pair.1.0, ap f pair.1.1 ∙ to)))
              ]
        ]
      ]

  module _ (p q : ℕ) (p_there : Reaches f a p) (q_there : Reaches f b q) (p_least : IsLeast f p) (q_least : IsLeast f q) (order : p < q) where
    -- a least number of the old cycles, but the greater of the two, is least in its new cycle
    still_least : (d : ℕ) → d < n → d ≢ q → IsLeast f d → IsLeast g d
    still_least d in_range other least k = elim (merged d in_range k) [
      | inl there ↦ omega (arith, least there.0, there.1)
      | inr (inl pair) ↦
          let same : d ≡ p = least_unique n f f_permutes d p in_range (reaches_trans f d a p pair.0 p_there) least p_least in
          let to = reaches_trans f q b (iterate g k d) (reaches_back n f f_permutes b q b_in q_there) pair.1 in
          omega (arith, same, q_least to.0, to.1)
      | inr (inr pair) ↦
          let same : d ≡ q = least_unique n f f_permutes d q in_range (reaches_trans f d b q pair.0 q_there) least q_least in
          absurd (other same)
    ]

    -- the greater of the two is not
    no_longer : IsLeast g q → ⊥
    no_longer least =
        let q_to_b = reaches_back n g g_permutes b q b_in (kept_to b q b_in q_there) in
        let b_to_a = reaches_back n g g_permutes a b a_in joined in
        let all = reaches_trans g q b p q_to_b (reaches_trans g b a p b_to_a (kept_to a p a_in p_there)) in
        omega (arith, least all.0, all.1)

    pub count_joined : cycle_count n f ≡ suc (cycle_count n g)
    count_joined =
        let q_in : q < n = reaches_below n f f_permutes b q b_in q_there in
        count-differs n (is_least n f) (is_least n g) q q_in
        (test-from_IsLeast n f f_permutes q q_least)
        (false_from_ne_true _ (λ yes_g. no_longer (IsLeast-from_test n g g_permutes q q_in yes_g)))
        (λ d d_in other. same_tests _ _
        (λ t. test-from_IsLeast n g g_permutes d (still_least d d_in other (IsLeast-from_test n f f_permutes d d_in t)))
        (λ t. test-from_IsLeast n f f_permutes d (λ k. let there = kept d d_in k in
        let low = IsLeast-from_test n g g_permutes d d_in t there.0 in omega (arith, low, there.1))))

-- a swap joins two cycles into one
pub cycle_count-joined : (n a b : ℕ) (f g : ℕ → ℕ) → Permutes n f → IsSplice n a b f g → a < n → b < n → (Reaches f a b → ⊥) → cycle_count n f ≡ suc (cycle_count n g)
cycle_count-joined n a b f g permutes s a_in b_in apart =
    let g_permutes = Permutes-splice n a b f g permutes s a_in b_in in
    let p = least_of n f permutes a a_in in
    let q = least_of n f permutes b b_in in
    elim (cases_order p.0 q.0) [
      | inl same ↦
          let b_to_p = reaches_back n f permutes b q.0 b_in q.1 in
          absurd (apart (reaches_trans f a p.0 b p.1 (b_to_p.0, ap (iterate f b_to_p.0) same ∙ b_to_p.1)))
      | inr (inl order) ↦ count_joined n a b f g permutes g_permutes s a_in b_in apart p.0 q.0 p.1 q.1 p.2 q.2 order
      | inr (inr order) ↦
          count_joined n b a f g permutes g_permutes (splice_turned n a b f g s) b_in a_in
          (λ back. apart (reaches_back n f permutes b a b_in back)) q.0 p.0 q.1 p.1 q.2 p.2 order
    ]

module _ (n a b : ℕ) (f g : ℕ → ℕ) (permutes : Permutes n f) (s : IsSplice n a b f g) (a_in : a < n) (b_in : b < n) (differ : a ≢ b) where
  module _ (k : ℕ) (comes : iterate f k b ≡ a) (first : (i : ℕ) → i < k → iterate f i b ≡ a → ⊥) where
    -- between b and a the old walk does not meet b
    not_b : (j : ℕ) → 0 < j → j ≤ k → iterate f j b ≡ b → ⊥
    not_b j some inside back =
        let whole : (k - j) + j ≡ k = omega arith in
        first (k - j) (omega arith) (ap (iterate f (k - j)) (sym back) ∙ sym (iterate-add f (k - j) j b) ∙ ap (λ i. iterate f i b) whole ∙ comes)

    -- the new walk from a stays on the old way from b to a
    stays : (m : ℕ) → (j : ℕ) × (0 < j) × (j ≤ k) × (iterate g m a ≡ iterate f j b)
    stays zero = (k, elim (cases_eq k 0) [ inl none ↦ absurd (differ (sym comes ∙ ap (λ i. iterate f i b) none)) | inr some ↦ omega arith ], omega arith, sym comes)
    stays (suc m) =
        let before = stays m in
        let x = iterate f before.0 b in
        let x_in : x < n = iterate_below n f permutes before.0 b b_in in
        elim (cases_eq before.0 k) [
          | inl end ↦ (1, omega arith, omega (arith, before.1, before.2), ap g (before.3 ∙ ap (λ i. iterate f i b) end ∙ comes) ∙ s.first)
          | inr inside ↦ (
            suc before.0,
            omega arith,
            omega (arith, before.2),
            ap g before.3 ∙ s.others x x_in (first before.0 (omega (arith, before.2))) (not_b before.0 before.1 before.2),
          )
        ]

    leaves : Reaches g a b → ⊥
    leaves there = let at = stays there.0 in not_b at.0 at.1 at.2 (sym at.3 ∙ there.1)

  -- after the swap the two lie apart
  pub apart_after : Reaches f a b → Reaches g a b → ⊥
  apart_after there =
      let back = reaches_back n f permutes a b a_in there in
      elim (first_below (suc back.0) (λ i. eqb (iterate f i b) a)) [
        | inl found ↦ leaves found.0 (eqb-true _ _ found.2) (λ i below. eqb-false _ _ (found.3 i below))
        | inr none ↦ absurd (eqb-false _ _ (none back.0 (omega arith)) back.1)
      ]

  -- a swap splits a cycle into two
  pub cycle_count-split : Reaches f a b → cycle_count n g ≡ suc (cycle_count n f)
  cycle_count-split there =
      cycle_count-joined n a b g f (Permutes-splice n a b f g permutes s a_in b_in) (splice_undone n a b f g s) a_in b_in (apart_after there)

-- with who reaches whom
pub JoinsCycles-splice : (n a b : ℕ) (f g : ℕ → ℕ) → Permutes n f → IsSplice n a b f g → a < n → b < n → ¬ Reaches f a b → JoinsCycles n a b f g
JoinsCycles-splice n a b f g permutes s a_in b_in apart =
    let g_permutes = Permutes-splice n a b f g permutes s a_in b_in in
    let one = joined n a b f g permutes g_permutes s a_in b_in apart in
    let keep = kept_to n a b f g permutes g_permutes s a_in b_in apart in
    record {
      two = apart;
      one = one;
      count = omega (arith, cycle_count-joined n a b f g permutes s a_in b_in apart);
      walks = λ d e d_in e_in. (
        λ there.
            let P : ℕ → Type 0 = λ x. Reaches f d x ⊎ ((Reaches f d a × Reaches f b x) ⊎ (Reaches f d b × Reaches f a x)) in
            subst P there.1 (merged n a b f g permutes g_permutes s a_in b_in apart d d_in there.0),
        λ cases. elim cases [
          | inl there ↦ keep d e d_in there
          | inr (inl pair) ↦ reaches_trans g d a e (keep d a d_in pair.0) (reaches_trans g a b e one (keep b e b_in pair.1))
          | inr (inr pair) ↦
              let back = reaches_back n g g_permutes a b a_in one in
              reaches_trans g d b e (keep d b d_in pair.0) (reaches_trans g b a e back (keep a e a_in pair.1))
        ],
      );
    }

-- a splitting read backwards
pub JoinsCycles-split : (n a b : ℕ) (f g : ℕ → ℕ) → Permutes n f → IsSplice n a b f g → a < n → b < n → a ≢ b → Reaches f a b → JoinsCycles n a b g f
JoinsCycles-split n a b f g permutes s a_in b_in differ there =
    JoinsCycles-splice n a b g f (Permutes-splice n a b f g permutes s a_in b_in) (splice_undone n a b f g s) a_in b_in
    (apart_after n a b f g permutes s a_in b_in differ there)

-- a walk that meets neither of the two stays as it is
pub walk-others : (n a b : ℕ) (f g : ℕ → ℕ) → Permutes n f → IsSplice n a b f g → (d : ℕ) → d < n → ¬ Reaches f d a → ¬ Reaches f d b → (k : ℕ) → iterate g k d ≡ iterate f k d
walk-others n a b f g permutes s d d_in not_a not_b zero = refl
walk-others n a b f g permutes s d d_in not_a not_b (suc k) =
    let so_far = walk-others n a b f g permutes s d d_in not_a not_b k in
    let x = iterate f k d in
    let x_in : x < n = iterate_below n f permutes k d d_in in
    ap g so_far ∙ s.others x x_in (λ same. not_a (k, same)) (λ same. not_b (k, same))

-- two elements of a list swapped
pub IsSplice-swap : (next : List ℕ) (a b : ℕ) → a < length next → b < length next → IsSplice (length next) a b (at next) (at (swap next a b))
IsSplice-swap next a b a_in b_in = record {
  first = grind (arith, at-swap next a b a a_in b_in a_in);
  second = grind (arith, at-swap next a b b a_in b_in b_in);
  others = λ d d_in not_a not_b. omega (arith, at-swap next a b d a_in b_in d_in, not_a, not_b);
}
