-- What the walks of a permutation do.
use Rattle.std.proofs.Common.{◌≡◌, ℕ, zero, suc, ◌+◌, ◌*◌, ◌<◌, ◌≤◌, ◌↔◌, ◌⊎◌, inl, inr, Bool, true, false, eqb, leb, length, refl, sym, ◌∙◌, ap, subst, ltb, arith, zero-add}
use Rattle.std.specs.List.{list_all, list_any, IsDistinct, AllByRecursion}
use Rattle.std.proofs.lemmas.Bool.{and_parts, and_from, leb-true, le-leb, ltb-true, ltb-false, eqb-true, eqb-false, ne_eqb, cases_eq, cases_Bool, or_cases, both_ways}
use Rattle.std.proofs.lemmas.Map.Steps.{length-le_from_distinct_below}
use Rattle.xn_model.specs.Permutation.{Permutes, iterate, walk, is_least, Reaches}
pub use Rattle.xn_model.proofs.Decide.{iterate-step}
use Rattle.xn_ring.specs.Walks.{IsLeastOf}

-- j steps after k steps
pub iterate-add : (f : ℕ → ℕ) (j k d : ℕ) → iterate f (j + k) d ≡ iterate f j (iterate f k d)
iterate-add f zero k d = ap (λ m. iterate f m d) (zero-add k)
iterate-add f (suc j) k d =
    let e : suc j + k ≡ suc (j + k) = omega arith in
    ap (λ m. iterate f m d) e ∙ ap f (iterate-add f j k d)

-- a walk that came back goes round
pub iterate-mul : (f : ℕ → ℕ) (j m d : ℕ) → iterate f m d ≡ d → iterate f (j * m) d ≡ d
iterate-mul f zero m d back = let e : 0 * m ≡ 0 = omega arith in ap (λ k. iterate f k d) e
iterate-mul f (suc j) m d back =
    let e : suc j * m ≡ m + j * m = omega arith in
    ap (λ k. iterate f k d) e ∙ iterate-add f m (j * m) d ∙ ap (iterate f m) (iterate-mul f j m d back) ∙ back

-- the first number below k that passes, if there is one
pub first_below : (k : ℕ) (p : ℕ → Bool) → ((j : ℕ) × (j < k) × (p j ≡ true) × ((i : ℕ) → i < j → p i ≡ false)) ⊎ ((j : ℕ) → j < k → p j ≡ false)
first_below zero p = inr (λ j below. absurd (omega arith))
first_below (suc k) p = elim (first_below k p) [
  | inl found ↦ inl (found.0, omega (arith, found.1), found.2, found.3)
  | inr none ↦ elim (cases_Bool (p k)) [
    | inl passes ↦ inl (k, omega arith, passes, none)
    | inr fails ↦ inr (λ j below. elim (cases_eq j k) [
      | inl same ↦ ap p same ∙ fails
      | inr other ↦ none j (omega arith)
    ])
  ]
]

module _ (n : ℕ) (f : ℕ → ℕ) (permutes : Permutes n f) where
  pub iterate_below : (k d : ℕ) → d < n → iterate f k d < n
  iterate_below zero d in_range = in_range
  iterate_below (suc k) d in_range = permutes.below _ (iterate_below k d in_range)

  -- two walks that meet after k steps began together
  pub iterate_apart : (k d e : ℕ) → d < n → e < n → iterate f k d ≡ iterate f k e → d ≡ e
  iterate_apart zero d e d_in e_in same = same
  iterate_apart (suc k) d e d_in e_in same =
      iterate_apart k d e d_in e_in (permutes.apart _ _ (iterate_below k d d_in) (iterate_below k e e_in) same)

  -- the walk from d does not come back in k steps
  abbrev IsAway : ℕ → ℕ → Type 0
  IsAway k d = (j : ℕ) → j < k → iterate f (suc j) d ≡ d → ⊥

  away_next : (k d : ℕ) → d < n → IsAway k d → IsAway k (f d)
  away_next k d in_range away j below back =
      away j below (permutes.apart _ _ (iterate_below (suc j) d in_range) in_range (sym (iterate-step f (suc j) d) ∙ back))

  -- e is not among the first k numbers from d on
  absent : (e : ℕ) (k d : ℕ) → ((j : ℕ) → j < k → iterate f j d ≡ e → ⊥) → AllByRecursion (λ y. eqb e y ≡ false) (walk f k d)
  absent e zero d never = tt
  absent e (suc k) d never =
      (ne_eqb e d (λ same. never 0 (omega arith) (sym same)), absent e k (f d) (λ j below same. never (suc j) (omega arith) (sym (iterate-step f j d) ∙ same)))

  distinct_walk : (k d : ℕ) → d < n → IsAway k d → IsDistinct eqb (walk f (suc k) d)
  unfolding IsDistinct
  distinct_walk zero d in_range away = (tt, tt)
  distinct_walk (suc k) d in_range away = (
    absent d (suc k) (f d) (λ j below same. away j below (sym (iterate-step f j d) ∙ same)),
    distinct_walk k (f d) (permutes.below d in_range) (λ j below. away_next (suc k) d in_range away j (omega arith)),
  )

  length-walk : (k d : ℕ) → length (walk f k d) ≡ k
  length-walk zero d = refl
  length-walk (suc k) d = ap suc (length-walk k (f d))

  walk_below : (k d : ℕ) → d < n → (q : ℕ) → list_any (eqb q) (walk f k d) ≡ true → q < n
  walk_below zero d in_range q h = absurd (both_ways false refl h)
  walk_below (suc k) d in_range q h = elim (or_cases _ _ h) [
    | inl here ↦ let e : q ≡ d = eqb-true q d here in omega arith
    | inr later ↦ walk_below k (f d) (permutes.below d in_range) q later
  ]

  -- each walk comes back within n steps
  pub comes_back : (d : ℕ) → d < n → (m : ℕ) × (m < n) × (iterate f (suc m) d ≡ d)
  comes_back d in_range = elim (first_below n (λ j. eqb (iterate f (suc j) d) d)) [
    | inl found ↦ (found.0, found.1, eqb-true _ _ found.2)
    | inr none ↦
        let away : IsAway n d = λ j below back. eqb-false _ _ (none j below) back in
        let long = length-le_from_distinct_below (walk f (suc n) d) n (distinct_walk n d in_range away) (walk_below (suc n) d in_range) in
        absurd (omega (arith, length-walk (suc n) d, long))
  ]

  -- each number of a walk is among its first n
  pub within_round : (d m : ℕ) → iterate f (suc m) d ≡ d → (k : ℕ) → (j : ℕ) × (j ≤ m) × (iterate f j d ≡ iterate f k d)
  within_round d m back zero = (0, omega arith, refl)
  within_round d m back (suc k) =
      let before = within_round d m back k in
      let same = ap f before.2 in
      elim (cases_eq before.0 m) [
        | inl last ↦ (0, omega arith, sym back ∙ ap (λ i. iterate f (suc i) d) (sym last) ∙ same)
        | inr inside ↦ (suc before.0, omega (arith, before.1), same)
      ]

  pub within : (d : ℕ) → d < n → (k : ℕ) → (j : ℕ) × (j < n) × (iterate f j d ≡ iterate f k d)
  within d in_range k =
      let round = comes_back d in_range in
      let found = within_round d round.0 round.2 k in
      (found.0, omega (arith, found.1, round.1), found.2)

  -- a walk leads back
  pub reaches_back : (d e : ℕ) → d < n → Reaches f d e → Reaches f e d
  reaches_back d e in_range there =
      let round = comes_back d in_range in
      let k = there.0 in
      let m = round.0 in
      let whole : k * m + k ≡ k * suc m = omega arith in
      (k * m, ap (iterate f (k * m)) (sym there.1) ∙ sym (iterate-add f (k * m) k d) ∙ ap (λ j. iterate f j d) whole ∙ iterate-mul f k (suc m) d round.2)

-- d comes to e, or not
pub cases_reaches : (n : ℕ) (f : ℕ → ℕ) → Permutes n f → (d e : ℕ) → d < n → Reaches f d e ⊎ (Reaches f d e → ⊥)
cases_reaches n f permutes d e d_in = elim (first_below n (λ k. eqb (iterate f k d) e)) [
  | inl found ↦ inl (found.0, eqb-true _ _ found.2)
  | inr none ↦ inr (λ there.
      let early = within n f permutes d d_in there.0 in
      eqb-false _ _ (none early.0 early.1) (early.2 ∙ there.1))
]

-- each number comes from one
pub source_of : (n : ℕ) (f : ℕ → ℕ) → Permutes n f → (d : ℕ) → d < n → (c : ℕ) × (c < n) × (f c ≡ d)
source_of n f permutes d d_in =
    let round = comes_back n f permutes d d_in in
    (iterate f round.0 d, iterate_below n f permutes round.0 d d_in, round.2)

pub reaches_trans : (f : ℕ → ℕ) (c d e : ℕ) → Reaches f c d → Reaches f d e → Reaches f c e
reaches_trans f c d e there further =
    (further.0 + there.0, iterate-add f further.0 there.0 c ∙ ap (iterate f further.0) there.1 ∙ further.1)

pub reaches_step : (f : ℕ → ℕ) (c d : ℕ) → Reaches f c d → Reaches f c (f d)
reaches_step f c d there = (suc there.0, ap f there.1)

-- no number of the walk from d is smaller
abbrev pub IsLeast : (ℕ → ℕ) → ℕ → Type 0
IsLeast f d = (k : ℕ) → d ≤ iterate f k d

-- a test of the first k numbers of a walk
pub all_walk_at : (p : ℕ → Bool) (f : ℕ → ℕ) (k d : ℕ) → list_all p (walk f k d) ≡ true → (j : ℕ) → j < k → p (iterate f j d) ≡ true
all_walk_at p f zero d passes j below = absurd (omega arith)
all_walk_at p f (suc k) d passes zero below = (and_parts _ _ passes).0
all_walk_at p f (suc k) d passes (suc j) below =
    ap p (sym (iterate-step f j d)) ∙ all_walk_at p f k (f d) (and_parts _ _ passes).1 j (omega arith)

pub all_walk_from : (p : ℕ → Bool) (f : ℕ → ℕ) (k d : ℕ) → ((j : ℕ) → j < k → p (iterate f j d) ≡ true) → list_all p (walk f k d) ≡ true
all_walk_from p f zero d passes = refl
all_walk_from p f (suc k) d passes =
    and_from _ _ (passes 0 (omega arith)) (all_walk_from p f k (f d) (λ j below. ap p (iterate-step f j d) ∙ passes (suc j) (omega arith)))

module _ (n : ℕ) (f : ℕ → ℕ) (permutes : Permutes n f) where
  pub IsLeast-from_test : (d : ℕ) → d < n → is_least n f d ≡ true → IsLeast f d
  IsLeast-from_test d in_range passes k =
      let found = within n f permutes d in_range k in
      let low = leb-true _ _ (all_walk_at (λ e. leb d e) f n d passes found.0 found.1) in
      omega (arith, low, found.2)

  pub test-from_IsLeast : (d : ℕ) → IsLeast f d → is_least n f d ≡ true
  test-from_IsLeast d least = all_walk_from (λ e. leb d e) f n d (λ j below. le-leb _ _ (least j))

  -- each walk has a least number
  least_within : (bound d : ℕ) → d < bound → d < n → (m : ℕ) × Reaches f d m × IsLeast f m
  least_within zero d low in_range = absurd (omega arith)
  least_within (suc bound) d low in_range = elim (first_below n (λ j. ltb (iterate f j d) d)) [
    | inl found ↦
        let smaller = ltb-true _ _ found.2 in
        let rest = least_within bound (iterate f found.0 d) (omega (arith, smaller)) (omega (arith, smaller)) in
        (rest.0, reaches_trans f d (iterate f found.0 d) rest.0 (found.0, refl) rest.1, rest.2)
    | inr none ↦ (
      d,
      (0, refl),
      λ k.
          let there = within n f permutes d in_range k in
          omega (arith, ltb-false _ _ (none there.0 there.1), there.2),
    )
  ]

  pub least_of : (d : ℕ) → d < n → (m : ℕ) × Reaches f d m × IsLeast f m
  least_of d in_range = least_within (suc d) d (omega arith) in_range

  pub reaches_below : (d e : ℕ) → d < n → Reaches f d e → e < n
  reaches_below d e in_range there = let P : ℕ → Type 0 = λ x. x < n in subst P there.1 (iterate_below n f permutes there.0 d in_range)

  -- two least numbers of one walk are one
  pub least_unique : (d e : ℕ) → d < n → Reaches f d e → IsLeast f d → IsLeast f e → d ≡ e
  least_unique d e in_range there d_least e_least =
      let back = reaches_back n f permutes d e in_range there in
      omega (arith, d_least there.0, there.1, e_least back.0, back.1)

-- the test and the walks
pub least-by_test : (n : ℕ) (f : ℕ → ℕ) → Permutes n f → (d : ℕ) → d < n → (is_least n f d ≡ true) ↔ ((e : ℕ) → Reaches f d e → d ≤ e)
least-by_test n f permutes d d_in = (
  λ passes e there. omega (arith, IsLeast-from_test n f permutes d d_in passes there.0, there.1),
  λ low. test-from_IsLeast n f permutes d (λ k. low (iterate f k d) (k, refl)),
)

pub IsLeastOf-walk : (n : ℕ) (f : ℕ → ℕ) → Permutes n f → (d : ℕ) → d < n → (m : ℕ) × IsLeastOf n f d m
IsLeastOf-walk n f permutes d d_in =
    let found = least_of n f permutes d d_in in
    let m = found.0 in
    let m_in = reaches_below n f permutes d m d_in found.1 in (
      m,
      record {
        below = m_in;
        there = found.1;
        least = test-from_IsLeast n f permutes m found.2;
        only = λ e there passes.
            let e_in = reaches_below n f permutes d e d_in there in
            let on = reaches_trans f m d e (reaches_back n f permutes d m d_in found.1) there in
            sym (least_unique n f permutes m e m_in on found.2 (IsLeast-from_test n f permutes e e_in passes));
      },
    )
