-- Euler's inequality on live segments, and a flat map stays flat where one of them dies.
use Rattle.std.proofs.Common.{◌≡◌, ◌≢◌, ℕ, zero, suc, ◌+◌, ◌*◌, ◌/◌, ◌<◌, ◌≤◌, inl, inr, Bool, true, false, not, ◌&&◌, cond, eqb, List, [], ◌∷◌, length, refl, sym, ◌∙◌, ap, subst, arith}
use Rattle.std.proofs.lemmas.Bool.{cases_eq, cases_lt, cases_Bool, both_ways, and_right, ne_eqb, eq-eqb, not_from_true}
use Rattle.xn_model.specs.Graph.{EndsIn}
use Rattle.xn_model.specs.Map.{IsMap, face_count, face_step, is_lone, component_count, reverse_of}
use Rattle.xn_model.specs.Permutation.{Permutes, cycle_count, count_below}
use Rattle.xn_genus.specs.Live.{IsFlatOn, IsMapOn, faces_on, kept, without_segment}
use Rattle.xn_model.proofs.Darts.{reverse-even, reverse-odd, reverse_below, reverse_apart}
use Rattle.xn_genus.proofs.Counts.{cycle_count-front}
use Rattle.xn_ring.proofs.Counting.{count-all}
use Rattle.xn_genus.proofs.Counts.{cycle_count-congr}
use Rattle.xn_genus.proofs.Counts.{no_segments}
use Rattle.xn_genus.proofs.Dies.{IsMapOn-deleted, genus_on_falls}

pub Permutes-reverse : (m : ℕ) → Permutes (2 * m) reverse_of
Permutes-reverse m = record { below = reverse_below m; apart = λ d e d_in e_in same. reverse_apart d e same }

-- each segment without a place is a face of its own
pub cycle_count-reverse : (m : ℕ) → cycle_count (2 * m) reverse_of ≡ m
cycle_count-reverse zero = refl
cycle_count-reverse (suc m) =
    let more : 2 * suc m ≡ suc (suc (2 * m)) = omega arith in
    let next_is : 2 * m + 1 ≡ suc (2 * m) = omega arith in
    let P : ℕ → Type 0 = λ n. Permutes n reverse_of in
    ap (λ n. cycle_count n reverse_of) more
    ∙ cycle_count-front (2 * m) reverse_of (subst P more (Permutes-reverse (suc m))) (reverse-even m ∙ next_is) (ap reverse_of (sym next_is) ∙ reverse-odd m)
    ∙ ap suc (cycle_count-reverse m)

pub kept-congr : (live keep : ℕ → Bool) (ends : List (ℕ × ℕ)) → ((i : ℕ) → i < length ends → live i ≡ keep i) → kept live ends ≡ kept keep ends
kept-congr live keep [] same = refl
kept-congr live keep (p ∷ ends) same =
    let rest = kept-congr (λ i. live (suc i)) (λ i. keep (suc i)) ends (λ i i_in. same (suc i) (omega arith)) in
    ap (λ b. cond b (p ∷ kept (λ i. live (suc i)) ends) (kept (λ i. live (suc i)) ends)) (same 0 (omega arith))
    ∙ ap (λ xs. cond (keep 0) (p ∷ xs) xs) rest

pub kept-none : (live : ℕ → Bool) (ends : List (ℕ × ℕ)) → ((i : ℕ) → i < length ends → live i ≡ false) → kept live ends ≡ []
kept-none live ends none = kept-congr live (λ i. false) ends none ∙ nothing ends
  where
    nothing : (ends : List (ℕ × ℕ)) → kept (λ i. false) ends ≡ []
    nothing [] = refl
    nothing (p ∷ ends) = nothing ends

pub kept-all : (ends : List (ℕ × ℕ)) → kept (λ i. true) ends ≡ ends
kept-all [] = refl
kept-all (p ∷ ends) = ap (λ xs. p ∷ xs) (kept-all ends)

abbrev pub dies : ℕ → (ℕ → Bool) → ℕ → Bool
dies s live i = live i && not (eqb i s)

pub dies-other : (s : ℕ) (live : ℕ → Bool) (i : ℕ) → i ≢ s → dies s live i ≡ live i
dies-other s live i other = ap (λ b. live i && not b) (ne_eqb _ _ other) ∙ and-true (live i)
  where
    and-true : (b : Bool) → (b && true) ≡ b
    and-true true = refl
    and-true false = refl

pub dies-at : (s : ℕ) (live : ℕ → Bool) → dies s live s ≡ false
dies-at s live = and_right (live s) _ (not_from_true _ (eq-eqb s s refl))

module _ (nodes : ℕ) (ends : List (ℕ × ℕ)) (ends_in : EndsIn nodes ends) where
  -- Euler's inequality on live segments, those below k
  euler_below : (k : ℕ) (live : ℕ → Bool) (next : ℕ → ℕ) → IsMapOn ends live next → ((i : ℕ) → k ≤ i → i < length ends → live i ≡ false) →
      nodes + faces_on nodes ends live next ≤ 2 * component_count nodes (kept live ends) + length ends
  euler_below zero live next map none =
      let nothing = kept-none live ends (λ i i_in. none i (omega arith) i_in) in
      let alone : (d : ℕ) → d < 2 * length ends → next d ≡ d = λ d d_in. map.dead d d_in (none (d / 2) (omega arith) (omega arith)) in
      let cycles : cycle_count (2 * length ends) (face_step next) ≡ length ends =
      sym (cycle_count-congr (2 * length ends) reverse_of (face_step next) (Permutes-reverse (length ends)) (λ d d_in. alone (reverse_of d) (reverse_below (length ends) d d_in)))
      ∙ cycle_count-reverse (length ends) in
      let lone : count_below nodes (is_lone (kept live ends)) ≡ nodes = ap (λ xs. count_below nodes (is_lone xs)) nothing ∙ count-all nodes in
      let components : component_count nodes (kept live ends) ≡ nodes = ap (component_count nodes) nothing ∙ no_segments nodes in
      omega (arith, cycles, lone, components)
  euler_below (suc k) live next map none = elim (cases_lt k (length ends)) [
    | inr past ↦ euler_below k live next map (λ i low i_in. none i (omega arith) i_in)
    | inl k_in ↦ elim (cases_Bool (live k)) [
      | inr dead ↦ euler_below k live next map (λ i low i_in. elim (cases_eq i k) [ inl same ↦ ap live same ∙ dead | inr other ↦ none i (omega arith) i_in ])
      | inl k_live ↦
          let less = euler_below k (dies k live) (without_segment k next) (IsMapOn-deleted nodes ends live next map ends_in k k_in k_live)
          (λ i low i_in. elim (cases_eq i k) [ inl same ↦ ap (dies k live) same ∙ dies-at k live | inr other ↦ dies-other k live i other ∙ none i (omega arith) i_in ]) in
          let step = genus_on_falls nodes ends live next map ends_in k k_in k_live in
          omega (arith, less, step)
    ]
  ]

  pub euler_on : (live : ℕ → Bool) (next : ℕ → ℕ) → IsMapOn ends live next → nodes + faces_on nodes ends live next ≤ 2 * component_count nodes (kept live ends) + length ends
  euler_on live next map = euler_below (length ends) live next map (λ i low i_in. absurd (omega arith))

  -- one segment dies, and the map stays flat
  pub flat_dies : (live : ℕ → Bool) (next : ℕ → ℕ) → IsMapOn ends live next → (s : ℕ) → s < length ends → live s ≡ true → IsFlatOn nodes ends live next → IsFlatOn nodes ends (dies s live) (without_segment s next)
  flat_dies live next map s s_in s_live flat =
      let less = euler_on (dies s live) (without_segment s next) (IsMapOn-deleted nodes ends live next map ends_in s s_in s_live) in
      let step = genus_on_falls nodes ends live next map ends_in s s_in s_live in
      omega (arith, less, step, flat)

-- a whole map is a map of all its segments
pub whole : (nodes : ℕ) (ends : List (ℕ × ℕ)) (next : ℕ → ℕ) → IsMap nodes ends next → IsMapOn ends (λ i. true) next
whole nodes ends next map = record {
  permutes = map.permutes;
  same_node = map.same_node;
  dead = λ d d_in h. absurd (both_ways true h refl);
  one_ring = λ d e d_in e_in d_live e_live tails. map.one_ring d e d_in e_in tails;
}

pub euler : (nodes : ℕ) (ends : List (ℕ × ℕ)) (next : ℕ → ℕ) → IsMap nodes ends next →
    nodes + face_count nodes ends next ≤ 2 * component_count nodes ends + length ends
euler nodes ends next map =
    let P : List (ℕ × ℕ) → Type 0 = λ xs. nodes + (cycle_count (2 * length ends) (face_step next) + count_below nodes (is_lone xs)) ≤ 2 * component_count nodes xs + length ends in
    subst P (kept-all ends) (euler_on nodes ends map.ends_in (λ i. true) next (whole nodes ends next map))
