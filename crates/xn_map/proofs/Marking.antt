-- A walk that marks what it meets.
use Rattle.std.proofs.Common.{◌≡◌, ◌≢◌, ℕ, zero, suc, ◌+◌, ◌<◌, ◌⊎◌, inl, inr, Bool, true, false, List, length, set, refl, sym, ◌∙◌, ap, subst, arith}
use Rattle.std.specs.Prelude.{◌↔◌}
use Rattle.std.proofs.lemmas.Bool.{cases_eq, cases_lt, both_ways, false_from_ne_true}
use Rattle.std.proofs.lemmas.List.{get_or-set_same, get_or-set_other}
use Rattle.xn_model.specs.Permutation.{Permutes, Reaches, count_below, is_least, iterate}
use Rattle.xn_map.specs.Marks.{IsClosed, MarksCycle, MarksCyclesBelow, is_marked}
use Rattle.xn_map.proofs.Counting.{count_below-no, count_below-yes}
use Rattle.xn_ring.proofs.Orbits.{IsLeast-from_test, iterate_below, reaches_back, reaches_step, reaches_trans, test-from_IsLeast}

-- the first k numbers of the walk from d are marked besides, and nothing else
abbrev pub MarksWalk : ℕ → (ℕ → ℕ) → ℕ → ℕ → List Bool → List Bool → Type 0
MarksWalk n f d k old new =
    (x : ℕ) → x < n → (is_marked new x ≡ true) ↔ ((is_marked old x ≡ true) ⊎ ((j : ℕ) × (j < k) × (iterate f j d ≡ x)))

pub is_marked-set : (marks : List Bool) (e x : ℕ) → e < length marks → ((x ≡ e) × (is_marked (set marks e true) x ≡ true)) ⊎ ((x ≢ e) × (is_marked (set marks e true) x ≡ is_marked marks x))
is_marked-set marks e x e_in = elim (cases_eq x e) [
  | inl same ↦ inl (same, ap (is_marked (set marks e true)) same ∙ get_or-set_same marks e true false e_in)
  | inr other ↦ inr (other, get_or-set_other marks e x true false other)
]

pub MarksWalk-more : (n : ℕ) (f : ℕ → ℕ) (d k e : ℕ) (old marks : List Bool) → e ≡ iterate f k d → e < length marks →
    MarksWalk n f d k old marks → MarksWalk n f d (suc k) old (set marks e true)
MarksWalk-more n f d k e old marks e_is e_in before x x_in = elim (is_marked-set marks e x e_in) [
  | inl here ↦ (λ m. inr (k, omega arith, sym e_is ∙ sym here.0), λ s. here.1)
  | inr there ↦ (
    λ m. elim ((before x x_in).0 (sym there.1 ∙ m)) [
      | inl was ↦ inl was
      | inr found ↦ inr (found.0, omega (arith, found.1), found.2)
    ],
    λ s. there.1 ∙ (before x x_in).1 (elim s [
      | inl was ↦ inl was
      | inr found ↦ elim (cases_eq found.0 k) [
        | inl last ↦ absurd (there.0 (sym found.2 ∙ ap (λ j. iterate f j d) last ∙ sym e_is))
        | inr earlier ↦ inr (found.0, omega (arith, found.1), found.2)
      ]
    ]),
  )
]

-- where the walk meets a marked number, all of the cycle is marked
module _ (n : ℕ) (f : ℕ → ℕ) (permutes : Permutes n f) (d : ℕ) (d_in : d < n) (k : ℕ) (old marks : List Bool) (walked : MarksWalk n f d k old marks) (fresh : is_marked old d ≡ false) (closed : IsClosed n f old) (end : is_marked marks (iterate f k d) ≡ true) where
  closed_walk : (m x : ℕ) → x < n → is_marked old x ≡ true → is_marked old (iterate f m x) ≡ true
  closed_walk zero x x_in was = was
  closed_walk (suc m) x x_in was = closed (iterate f m x) (iterate_below n f permutes m x x_in) (closed_walk m x x_in was)

  -- the marked number that was met is one of the walk
  met : (j : ℕ) × (j < k) × (iterate f j d ≡ iterate f k d)
  met =
      let e = iterate f k d in
      let e_in = iterate_below n f permutes k d d_in in
      elim ((walked e e_in).0 end) [
        | inl was ↦
            let back = reaches_back n f permutes d e d_in (k, refl) in
            absurd (both_ways _ fresh (ap (is_marked old) (sym back.1) ∙ closed_walk back.0 e e_in was))
        | inr found ↦ found
      ]

  within_walk : (m : ℕ) → (j : ℕ) × (j < k) × (iterate f j d ≡ iterate f m d)
  within_walk zero = (0, omega (arith, met.1), refl)
  within_walk (suc m) =
      let before = within_walk m in
      let step = ap f before.2 in
      elim (cases_eq (suc before.0) k) [
        | inl last ↦ (met.0, met.1, met.2 ∙ ap (λ j. iterate f j d) (sym last) ∙ step)
        | inr inside ↦ (suc before.0, omega (arith, before.1), step)
      ]

  pub MarksCycle-from_walk : MarksCycle n f d old marks
  MarksCycle-from_walk x x_in = (
    λ m. elim ((walked x x_in).0 m) [
      | inl was ↦ inl was
      | inr found ↦ inr (found.0, found.2)
    ],
    λ s. (walked x x_in).1 (elim s [
      | inl was ↦ inl was
      | inr there ↦ let found = within_walk there.0 in inr (found.0, found.1, found.2 ∙ there.1)
    ]),
  )

-- numbers in rising order, each with its cycle
module _ (n : ℕ) (f : ℕ → ℕ) (permutes : Permutes n f) (d : ℕ) (marks : List Bool) (below : MarksCyclesBelow n f d marks) where
  pub IsClosed-from_below : IsClosed n f marks
  IsClosed-from_below x x_in m =
      let found = (below x x_in).0 m in
      (below (f x) (permutes.below x x_in)).1 (found.0, found.1, reaches_step f found.0 x found.2)

  pub cycle_marked : (new : List Bool) → MarksCycle n f d marks new → MarksCyclesBelow n f (d + 1) new
  cycle_marked new marked x x_in = (
    λ m. elim ((marked x x_in).0 m) [
      | inl was ↦ let found = (below x x_in).0 was in (found.0, omega (arith, found.1), found.2)
      | inr there ↦ (d, omega arith, there)
    ],
    λ found. (marked x x_in).1 (elim (cases_eq found.0 d) [
      | inl last ↦ inr (let P : ℕ → Type 0 = λ c. Reaches f c x in subst P last found.2)
      | inr earlier ↦ inl ((below x x_in).1 (found.0, omega (arith, found.1), found.2))
    ]),
  )

  module _ (d_in : d < n) where
    pub marked_before : is_marked marks d ≡ true → MarksCyclesBelow n f (d + 1) marks
    marked_before m x x_in = (
      λ was. let found = (below x x_in).0 was in (found.0, omega (arith, found.1), found.2),
      λ found. (below x x_in).1 (elim (cases_eq found.0 d) [
        | inl last ↦
            let first = (below d d_in).0 m in
            (first.0, first.1, reaches_trans f first.0 d x first.2 (let P : ℕ → Type 0 = λ c. Reaches f c x in subst P last found.2))
        | inr earlier ↦ (found.0, omega (arith, found.1), found.2)
      ]),
    )

    pub least_if_fresh : is_marked marks d ≡ false → is_least n f d ≡ true
    least_if_fresh fresh = test-from_IsLeast n f permutes d (λ k. elim (cases_lt (iterate f k d) d) [
      | inr high ↦ high
      | inl low ↦
          let e = iterate f k d in
          absurd (both_ways _ fresh ((below d d_in).1 (e, low, reaches_back n f permutes d e d_in (k, refl))))
    ])

    pub not_least_if_marked : is_marked marks d ≡ true → is_least n f d ≡ false
    not_least_if_marked m = false_from_ne_true _ (λ t.
        let first = (below d d_in).0 m in
        let back = reaches_back n f permutes first.0 d (omega (arith, first.1)) first.2 in
        let least = IsLeast-from_test n f permutes d d_in t back.0 in
        omega (arith, least, back.1, first.1))

-- exactly the cycles of the numbers below d are marked, and counted
pub record CountsCycles (n : ℕ) (f : ℕ → ℕ) (d : ℕ) (marks : List Bool) (count : ℕ) : Type 0 where
  pub marked : MarksCyclesBelow n f d marks
  pub counted : count ≡ count_below d (is_least n f)

module _ (n : ℕ) (f : ℕ → ℕ) (permutes : Permutes n f) (d : ℕ) (marks : List Bool) (count : ℕ) (before : CountsCycles n f d marks count) (d_in : d < n) where
  pub counts_fresh : (new : List Bool) → is_marked marks d ≡ false → MarksCycle n f d marks new → CountsCycles n f (d + 1) new (count + 1)
  counts_fresh new fresh marked = record {
    marked = cycle_marked n f permutes d marks before.marked new marked;
    counted = omega (arith, before.counted, count_below-yes d (is_least n f) (least_if_fresh n f permutes d marks before.marked d_in fresh));
  }

  pub counts_marked : is_marked marks d ≡ true → CountsCycles n f (d + 1) marks count
  counts_marked was = record {
    marked = marked_before n f permutes d marks before.marked d_in was;
    counted = before.counted ∙ sym (count_below-no d (is_least n f) (not_least_if_marked n f permutes d marks before.marked d_in was));
  }
