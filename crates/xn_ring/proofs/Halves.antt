-- Two permutations beside each other, and numbers on top of one.
use Rattle.std.proofs.Common.{◌≡◌, ◌≢◌, ℕ, zero, suc, ◌+◌, ◌-◌, ◌<◌, ◌≤◌, ◌↔◌, ◌⊎◌, inl, inr, Bool, true, not, ltb, refl, sym, ◌∙◌, ap, arith}
use Rattle.std.proofs.lemmas.Bool.{both_ways, cases_eq, cases_lt, le-ltb, lt-ltb, ltb-true}
use Rattle.xn_model.specs.Permutation.{Permutes, cycle_count, is_least, iterate}
use Rattle.xn_ring.proofs.Counting.{count-all, count-same}
use Rattle.xn_ring.proofs.Marked.{parts_add_up, walks_stay}
use Rattle.xn_ring.proofs.Orbits.{comes_back, test-from_IsLeast}
use Rattle.xn_ring.proofs.Restriction.{has_cycles_of}
use Rattle.xn_ring.specs.Parts.{HasCyclesOfBoth, IsBeside, IsRestriction}

-- a number is below n, or so much above it
split_at : (n d : ℕ) → (d < n) ⊎ ((j : ℕ) × (d ≡ n + j))
split_at n d = elim (cases_lt d n) [
  | inl low ↦ inl low
  | inr high ↦ inr (d - n, omega (arith, high))
]

module _ (n k : ℕ) (g h f : ℕ → ℕ) (g_permutes : Permutes n g) (h_permutes : Permutes k h) (beside : IsBeside n k g h f) where
  low_in : (d : ℕ) → d < n → f d < n
  low_in d d_in = omega (arith, beside.low d d_in, g_permutes.below d d_in)

  high_in : (d : ℕ) → d < k → (n ≤ f (n + d)) × (f (n + d) < n + k)
  high_in d d_in =
      let is = beside.high d d_in in
      let to = h_permutes.below d d_in in
      (omega (arith, is), omega (arith, is, to))

  pub Permutes-beside : Permutes (n + k) f
  Permutes-beside = record {
    below = λ d d_in. elim (split_at n d) [
      | inl low ↦ omega (arith, low_in d low)
      | inr high ↦
          let j_in : high.0 < k = omega (arith, high.1) in
          omega (arith, ap f high.1, (high_in high.0 j_in).1)
    ];
    apart = λ d e d_in e_in same. elim (split_at n d) [
      | inl d_low ↦ elim (split_at n e) [
        | inl e_low ↦ g_permutes.apart d e d_low e_low (sym (beside.low d d_low) ∙ same ∙ beside.low e e_low)
        | inr e_high ↦
            let j_in : e_high.0 < k = omega (arith, e_high.1) in
            absurd (omega (arith, low_in d d_low, same, ap f e_high.1, (high_in e_high.0 j_in).0))
      ]
      | inr d_high ↦
          let i_in : d_high.0 < k = omega (arith, d_high.1) in
          elim (split_at n e) [
            | inl e_low ↦ absurd (omega (arith, low_in e e_low, same, ap f d_high.1, (high_in d_high.0 i_in).0))
            | inr e_high ↦
                let j_in : e_high.0 < k = omega (arith, e_high.1) in
                let meets : h d_high.0 ≡ h e_high.0 =
                omega (arith, beside.high d_high.0 i_in, beside.high e_high.0 j_in, ap f d_high.1, ap f e_high.1, same) in
                let one = h_permutes.apart d_high.0 e_high.0 i_in j_in meets in
                omega (arith, one, d_high.1, e_high.1)
          ]
    ];
  }

  abbrev is_low : ℕ → Bool
  is_low d = ltb d n

  is_high : (d : ℕ) → n ≤ d → not (is_low d) ≡ true
  is_high d high = ap not (le-ltb d n high)

  stays_in : (d : ℕ) → d < n + k → is_low (f d) ≡ is_low d
  stays_in d d_in = elim (split_at n d) [
    | inl low ↦ lt-ltb (f d) n (low_in d low) ∙ sym (lt-ltb d n low)
    | inr high ↦
        let j_in : high.0 < k = omega (arith, high.1) in
        let up : n ≤ f d = omega (arith, ap f high.1, (high_in high.0 j_in).0) in
        let was : n ≤ d = omega (arith, high.1) in
        le-ltb (f d) n up ∙ sym (le-ltb d n was)
  ]

  low_restriction : IsRestriction (n + k) n is_low (λ j. j) f g
  low_restriction = record {
    code_in = λ j j_in. (omega arith, lt-ltb j n j_in);
    apart = λ i j i_in j_in same. same;
    onto = λ d d_in low. (d, ltb-true d n low, refl);
    steps = λ j j_in.
        let to = g_permutes.below j j_in in
        (to, record { steps = 0; there = beside.low j j_in; kept = lt-ltb (g j) n to; passed = λ i none. absurd (omega arith) });
  }

  high_restriction : IsRestriction (n + k) k (λ d. not (is_low d)) (λ j. n + j) f h
  high_restriction = record {
    code_in = λ j j_in. (omega arith, is_high (n + j) (omega arith));
    apart = λ i j i_in j_in same. omega (arith, same);
    onto = λ d d_in high. elim (split_at n d) [
      | inl low ↦ absurd (both_ways (not (is_low d)) (ap not (lt-ltb d n low)) high)
      | inr found ↦ (found.0, omega (arith, found.1), sym found.1)
    ];
    steps = λ j j_in.
        let to = h_permutes.below j j_in in
        (to, record { steps = 0; there = beside.high j j_in; kept = is_high (n + h j) (omega arith); passed = λ i none. absurd (omega arith) });
  }

  pub has_cycles_of_both : HasCyclesOfBoth n k g h f
  has_cycles_of_both =
      let low = has_cycles_of (n + k) n is_low (λ j. j) f g Permutes-beside low_restriction in
      let high = has_cycles_of (n + k) k (λ d. not (is_low d)) (λ j. n + j) f h Permutes-beside high_restriction in
      let both = parts_add_up (n + k) f is_low Permutes-beside stays_in in
      record {
        permutes = Permutes-beside;
        count = omega (arith, both, low.count, high.count);
        low = λ d e d_in e_in. ((low.walks d e d_in e_in).1, (low.walks d e d_in e_in).0);
        high = λ d e d_in e_in. ((high.walks d e d_in e_in).1, (high.walks d e d_in e_in).0);
        across = λ d e d_in e_in.
            let low_d = lt-ltb d n d_in in
            let high_e = le-ltb (n + e) n (omega arith) in
            let stay = walks_stay (n + k) f is_low Permutes-beside stays_in in (
              λ there. both_ways (is_low (n + e)) high_e (stay d (n + e) (omega arith) there ∙ low_d),
              λ there. both_ways (is_low (n + e)) high_e (sym (stay (n + e) d (omega arith) there) ∙ low_d),
            );
      }

-- a permutation that keeps the numbers below n
module _ (n k : ℕ) (f : ℕ → ℕ) (permutes : Permutes (n + k) f) (keeps : (d : ℕ) → d < n → f d < n) where
  below_along : (d : ℕ) → f d < n → (i : ℕ) → iterate f (suc i) d < n
  below_along d low zero = low
  below_along d low (suc i) = keeps (iterate f (suc i) d) (below_along d low i)

  -- keeps the others
  stays_high : (d : ℕ) → n ≤ d → d < n + k → n ≤ f d
  stays_high d high d_in = elim (cases_lt (f d) n) [
    | inl low ↦
        let round = comes_back (n + k) f permutes d d_in in
        absurd (omega (arith, below_along d low round.0, round.2, high))
    | inr up ↦ up
  ]

  abbrev top : ℕ → ℕ
  top j = f (n + j) - n

  top_is : (j : ℕ) → j < k → f (n + j) ≡ n + top j
  top_is j j_in = omega (arith, stays_high (n + j) (omega arith) (omega arith))

  pub kept_halves : (h : ℕ → ℕ) × Permutes n f × Permutes k h × IsBeside n k f h f
  kept_halves = (
    top,
    record { below = keeps; apart = λ d e d_in e_in. permutes.apart d e (omega arith) (omega arith) },
    record {
      below = λ j j_in. omega (arith, top_is j j_in, permutes.below (n + j) (omega arith));
      apart = λ i j i_in j_in same.
          let meets : f (n + i) ≡ f (n + j) = top_is i i_in ∙ ap (λ z. n + z) same ∙ sym (top_is j j_in) in
          omega (arith, permutes.apart (n + i) (n + j) (omega arith) (omega arith) meets);
    },
    record { low = λ d d_in. refl; high = top_is },
  )

-- each number alone
module _ (k : ℕ) where
  Permutes-alone : Permutes k (λ d. d)
  Permutes-alone = record { below = λ d d_in. d_in; apart = λ d e d_in e_in same. same }

  stays_put : (j d : ℕ) → iterate (λ x. x) j d ≡ d
  stays_put zero d = refl
  stays_put (suc j) d = stays_put j d

  cycle_count-alone : cycle_count k (λ d. d) ≡ k
  cycle_count-alone =
      let all = count-same k (is_least k (λ d. d)) (λ d. true) (λ d d_in. test-from_IsLeast k (λ x. x) Permutes-alone d (λ j. omega (arith, stays_put j d))) in
      all ∙ count-all k

-- k numbers on top, each alone
module _ (n k : ℕ) (f : ℕ → ℕ) (alone : (d : ℕ) → n ≤ d → d < n + k → f d ≡ d) where
  top_beside : IsBeside n k f (λ d. d) f
  top_beside = record { low = λ d d_in. refl; high = λ d d_in. alone (n + d) (omega arith) (omega arith) }

  pub with_top : Permutes n f → HasCyclesOfBoth n k f (λ d. d) f
  with_top permutes = has_cycles_of_both n k f (λ d. d) f permutes (Permutes-alone k) top_beside

  pub Permutes-below_top : Permutes (n + k) f → Permutes n f
  Permutes-below_top permutes = record {
    below = λ d d_in. elim (cases_lt (f d) n) [
      | inl low ↦ low
      | inr high ↦
          let to = permutes.below d (omega arith) in
          let same : f (f d) ≡ f d = alone (f d) high to in
          let stays : f d ≡ d = permutes.apart (f d) d to (omega arith) same in
          absurd (omega (arith, stays, high))
    ];
    apart = λ d e d_in e_in. permutes.apart d e (omega arith) (omega arith);
  }

  pub top_is_alone : (Permutes (n + k) f ↔ Permutes n f) × (Permutes n f → cycle_count (n + k) f ≡ cycle_count n f + k)
  top_is_alone = (
    (Permutes-below_top, λ permutes. (with_top permutes).permutes),
    λ permutes. let many = cycle_count-alone k in omega (arith, (with_top permutes).count, many),
  )

-- two numbers that lead to each other
abbrev other_of_two : ℕ → ℕ
other_of_two d = 1 - d

Permutes-pair : Permutes 2 other_of_two
Permutes-pair = record {
  below = λ d d_in. omega arith;
  apart = λ d e d_in e_in same. omega (arith, same);
}

cycle_count-two : cycle_count 2 other_of_two ≡ 1
cycle_count-two = refl

-- two numbers on top that lead to each other
module _ (n : ℕ) (f : ℕ → ℕ) (there : f n ≡ n + 1) (back : f (n + 1) ≡ n) where
  pair_beside : IsBeside n 2 f other_of_two f
  pair_beside = record {
    low = λ d d_in. refl;
    high = λ d d_in. elim (cases_eq d 0) [
      | inl first ↦
          let at : n + d ≡ n = omega (arith, first) in
          omega (arith, ap f at, there, first)
      | inr second ↦
          let at : n + d ≡ n + 1 = omega (arith, second) in
          omega (arith, ap f at, back, second)
    ];
  }

  pub with_pair : Permutes n f → HasCyclesOfBoth n 2 f other_of_two f
  with_pair permutes = has_cycles_of_both n 2 f other_of_two f permutes Permutes-pair pair_beside

  pub Permutes-below_pair : Permutes (n + 2) f → Permutes n f
  Permutes-below_pair permutes = record {
    below = λ d d_in.
        let low = permutes.below d (omega arith) in
        let not_top : f d ≢ n + 1 = λ e. let same : d ≡ n = permutes.apart d n (omega arith) (omega arith) (e ∙ sym there) in omega (arith, same) in
        let not_n : f d ≢ n = λ e. let same : d ≡ n + 1 = permutes.apart d (n + 1) (omega arith) (omega arith) (e ∙ sym back) in omega (arith, same) in
        omega (arith, low, not_top, not_n);
    apart = λ d e d_in e_in. permutes.apart d e (omega arith) (omega arith);
  }

  pub top_is_a_pair : (Permutes (n + 2) f ↔ Permutes n f) × (Permutes n f → cycle_count (n + 2) f ≡ cycle_count n f + 1)
  top_is_a_pair = (
    (Permutes-below_pair, λ permutes. (with_pair permutes).permutes),
    λ permutes. (with_pair permutes).count ∙ ap (λ m. cycle_count n f + m) cycle_count-two,
  )
