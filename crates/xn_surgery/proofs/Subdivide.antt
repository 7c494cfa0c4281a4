-- A new node on a segment: to contract there again gives the map before.
use Rattle.std.proofs.Common.{◌≡◌, ◌≢◌, ℕ, zero, suc, ◌+◌, ◌*◌, ◌/◌, ◌<◌, ◌≤◌, ◌⊎◌, inl, inr, cond, eqb, List, length, refl, sym, ◌∙◌, ap, arith}
use Rattle.std.proofs.lemmas.Bool.{cases_eq, cond-true, cond-false, eq-eqb, ne_eqb}
use Rattle.xn_model.specs.Graph.{ends_at}
use Rattle.xn_model.specs.Map.{IsMap, component_count, face_count, face_step, reverse_of, tail_of}
use Rattle.xn_model.specs.Permutation.{Reaches, iterate}
use Rattle.xn_surgery.specs.Contraction.{IsContraction, along_chain}
use Rattle.xn_surgery.specs.Subdivision.{IsSubdivision, dart_now}
use Rattle.xn_model.proofs.Darts.{cases_dart, reverse-even, reverse-odd, reverse-reverse, tail-even, tail-odd}
use Rattle.xn_genus.proofs.Compress.{EndsIn_tails, tail_in}
use Rattle.xn_surgery.proofs.Contract.{components_left, faces_left}
use Rattle.xn_genus.proofs.Lone.{no_dart_if_lone}

module _ (nodes s : ℕ) (ends more : List (ℕ × ℕ)) (next after : ℕ → ℕ) (map : IsMap nodes ends next) (is : IsSubdivision nodes ends next s more after) where
  abbrev last : ℕ
  last = length ends

  -- the darts at the new node, and the one in the old place
  abbrev m : ℕ
  m = 2 * s + 1

  abbrev x : ℕ
  x = 2 * last

  abbrev y : ℕ
  y = 2 * last + 1

  abbrev now : ℕ → ℕ
  now = dart_now s last

  now_m : now m ≡ y
  now_m = cond-true _ _ _ (eq-eqb m m refl)

  now_other : (d : ℕ) → d ≢ m → now d ≡ d
  now_other d other = cond-false _ _ _ (ne_eqb d m other)

  cases_now : (d : ℕ) → ((d ≡ m) × (now d ≡ y)) ⊎ ((d ≢ m) × (now d ≡ d))
  cases_now d = elim (cases_eq d m) [ inl here ↦ inl (here, ap now here ∙ now_m) | inr other ↦ inr (other, now_other d other) ]

  now_apart : (c d : ℕ) → c < x → d < x → now c ≡ now d → c ≡ d
  now_apart c d c_in d_in same = omega (arith, same, cases_now c, cases_now d)

  now_not_m : (d : ℕ) → d < x → now d ≢ m
  now_not_m d d_in same = omega (arith, same, cases_now d, is.is_there)

  now_not_x : (d : ℕ) → d < x → now d ≢ x
  now_not_x d d_in same = omega (arith, same, cases_now d)

  now_in : (d : ℕ) → d < x → now d < 2 * length more
  now_in d d_in = omega (arith, cases_now d, is.longer, d_in)

  m_in : m < x
  m_in = omega (arith, is.is_there)

  first_in : 2 * s < x
  first_in = omega (arith, is.is_there)

  now_first : now (2 * s) ≡ 2 * s
  now_first = now_other (2 * s) (λ same. omega (arith, same))

  -- each dart stands where one stood, or at the new node
  cases_more : (d : ℕ) → d < 2 * length more → ((c : ℕ) × (c < x) × (now c ≡ d)) ⊎ ((d ≡ m) ⊎ (d ≡ x))
  cases_more d d_in = elim (cases_eq d m) [
    | inl at_m ↦ inr (inl at_m)
    | inr not_m ↦ elim (cases_eq d x) [
      | inl at_x ↦ inr (inr at_x)
      | inr not_x ↦ elim (cases_eq d y) [
        | inl at_y ↦ inl (m, m_in, now_m ∙ sym at_y)
        | inr not_y ↦ inl (d, omega (arith, d_in, is.longer, not_x, not_y), now_other d not_m)
      ]
    ]
  ]

  -- tails
  abbrev tail : ℕ → ℕ
  tail = tail_of more

  tail_now : (d : ℕ) → d < x → tail (now d) ≡ tail_of ends d
  tail_now d d_in = elim (cases_eq d m) [
    | inl at_m ↦
        ap tail (ap now at_m ∙ now_m) ∙ tail-odd more last ∙ ap (λ p. p.1) is.last_part ∙ sym (tail-odd ends s) ∙ ap (tail_of ends) (sym at_m)
    | inr not_m ↦
        let c = cases_dart d in
        ap tail (now_other d not_m) ∙ elim c.1 [
          | inl even ↦ elim (cases_eq c.0 s) [
            | inl here ↦
                ap tail even ∙ tail-even more c.0 ∙ ap (λ i. (ends_at more i).0) here ∙ ap (λ p. p.0) is.first_part ∙ ap (λ i. (ends_at ends i).0) (sym here) ∙ sym (tail-even ends c.0) ∙ ap (tail_of ends) (sym even)
            | inr other ↦
                ap tail even ∙ tail-even more c.0 ∙ ap (λ p. p.0) (is.ends_kept c.0 (omega (arith, even, d_in)) other) ∙ sym (tail-even ends c.0) ∙ ap (tail_of ends) (sym even)
          ]
          | inr odd ↦
              ap tail odd ∙ tail-odd more c.0 ∙ ap (λ p. p.1) (is.ends_kept c.0 (omega (arith, odd, d_in)) (λ here. not_m (omega (arith, odd, here))))
              ∙ sym (tail-odd ends c.0) ∙ ap (tail_of ends) (sym odd)
        ]
  ]

  tail_m : tail m ≡ nodes
  tail_m = tail-odd more s ∙ ap (λ p. p.1) is.first_part

  tail_x : tail x ≡ nodes
  tail_x = tail-even more last ∙ ap (λ p. p.0) is.last_part

  -- a walk among the old places
  walks_now : (k d : ℕ) → d < x → (iterate next k d < x) × (iterate after k (now d) ≡ now (iterate next k d))
  walks_now zero d d_in = (d_in, refl)
  walks_now (suc k) d d_in =
      let before = walks_now k d d_in in
      (map.permutes.below _ before.0, ap after before.1 ∙ is.turns _ before.0)

  step : (c d : ℕ) → now c ≡ d → c < x → after d ≡ now (next c)
  step c d same c_in = ap after (sym same) ∙ is.turns c c_in

  x_in : x < 2 * length more
  x_in = omega (arith, is.longer)

  wide_m : m < 2 * length more
  wide_m = omega (arith, is.longer, m_in)

  below : (d : ℕ) → d < 2 * length more → after d < 2 * length more
  below d d_in = elim (cases_more d d_in) [
    | inl old ↦ let low = now_in (next old.0) (map.permutes.below old.0 old.1) in omega (arith, step old.0 d old.2 old.1, low)
    | inr (inl at_m) ↦ omega (arith, ap after at_m, is.turns_new, x_in)
    | inr (inr at_x) ↦ omega (arith, ap after at_x, is.turns_back, wide_m)
  ]

  after_apart : (c d : ℕ) → c < 2 * length more → d < 2 * length more → after c ≡ after d → c ≡ d
  after_apart c d c_in d_in same = elim (cases_more c c_in) [
    | inl old_c ↦
        let c_on = map.permutes.below old_c.0 old_c.1 in
        let c_step = step old_c.0 c old_c.2 old_c.1 in
        elim (cases_more d d_in) [
          | inl old_d ↦
              let d_on = map.permutes.below old_d.0 old_d.1 in
              let one = now_apart _ _ c_on d_on (sym c_step ∙ same ∙ step old_d.0 d old_d.2 old_d.1) in
              sym old_c.2 ∙ ap now (map.permutes.apart old_c.0 old_d.0 old_c.1 old_d.1 one) ∙ old_d.2
          | inr (inl at_m) ↦ absurd (now_not_x _ c_on (sym c_step ∙ same ∙ ap after at_m ∙ is.turns_new))
          | inr (inr at_x) ↦ absurd (now_not_m _ c_on (sym c_step ∙ same ∙ ap after at_x ∙ is.turns_back))
        ]
    | inr (inl c_m) ↦ elim (cases_more d d_in) [
      | inl old_d ↦ absurd (now_not_x _ (map.permutes.below old_d.0 old_d.1) (sym (step old_d.0 d old_d.2 old_d.1) ∙ sym same ∙ ap after c_m ∙ is.turns_new))
      | inr (inl d_m) ↦ c_m ∙ sym d_m
      | inr (inr d_x) ↦ absurd (omega (arith, same, ap after c_m, ap after d_x, is.turns_new, is.turns_back, m_in))
    ]
    | inr (inr c_x) ↦ elim (cases_more d d_in) [
      | inl old_d ↦ absurd (now_not_m _ (map.permutes.below old_d.0 old_d.1) (sym (step old_d.0 d old_d.2 old_d.1) ∙ sym same ∙ ap after c_x ∙ is.turns_back))
      | inr (inl d_m) ↦ absurd (omega (arith, same, ap after c_x, ap after d_m, is.turns_new, is.turns_back, m_in))
      | inr (inr d_x) ↦ c_x ∙ sym d_x
    ]
  ]

  -- an old dart isn't at the new node
  not_new : (c d : ℕ) → c < x → now c ≡ d → tail d ≢ nodes
  not_new c d c_in same at = let low = tail_in nodes ends map.ends_in c c_in in omega (arith, low, sym (tail_now c c_in), ap tail same, at)

  round : (c d : ℕ) → c < 2 * length more → d < 2 * length more → tail c ≡ tail d → Reaches after c d
  round c d c_in d_in same = elim (cases_more c c_in) [
    | inl old_c ↦ elim (cases_more d d_in) [
      | inl old_d ↦
          let there = map.one_ring old_c.0 old_d.0 old_c.1 old_d.1 (sym (tail_now old_c.0 old_c.1) ∙ ap tail old_c.2 ∙ same ∙ ap tail (sym old_d.2) ∙ tail_now old_d.0 old_d.1) in
          (there.0, ap (iterate after there.0) (sym old_c.2) ∙ (walks_now there.0 old_c.0 old_c.1).1 ∙ ap now there.1 ∙ old_d.2)
      | inr (inl d_m) ↦ absurd (not_new old_c.0 c old_c.1 old_c.2 (same ∙ ap tail d_m ∙ tail_m))
      | inr (inr d_x) ↦ absurd (not_new old_c.0 c old_c.1 old_c.2 (same ∙ ap tail d_x ∙ tail_x))
    ]
    | inr (inl c_m) ↦ elim (cases_more d d_in) [
      | inl old_d ↦ absurd (not_new old_d.0 d old_d.1 old_d.2 (sym same ∙ ap tail c_m ∙ tail_m))
      | inr (inl d_m) ↦ (0, c_m ∙ sym d_m)
      | inr (inr d_x) ↦ (1, ap after c_m ∙ is.turns_new ∙ sym d_x)
    ]
    | inr (inr c_x) ↦ elim (cases_more d d_in) [
      | inl old_d ↦ absurd (not_new old_d.0 d old_d.1 old_d.2 (sym same ∙ ap tail c_x ∙ tail_x))
      | inr (inl d_m) ↦ (1, ap after c_x ∙ is.turns_back ∙ sym d_m)
      | inr (inr d_x) ↦ (0, c_x ∙ sym d_x)
    ]
  ]

  pub map_more : IsMap (suc nodes) more after
  map_more = record {
    ends_in = EndsIn_tails (suc nodes) more (λ d d_in. elim (cases_more d d_in) [
      | inl old ↦ let low = tail_in nodes ends map.ends_in old.0 old.1 in omega (arith, low, tail_now old.0 old.1, ap tail old.2)
      | inr (inl at_m) ↦ omega (arith, ap tail at_m, tail_m)
      | inr (inr at_x) ↦ omega (arith, ap tail at_x, tail_x)
    ]);
    permutes = record { below = below; apart = after_apart };
    same_node = λ d d_in. elim (cases_more d d_in) [
      | inl old ↦
          ap tail (step old.0 d old.2 old.1) ∙ tail_now (next old.0) (map.permutes.below old.0 old.1) ∙ map.same_node old.0 old.1 ∙ sym (tail_now old.0 old.1) ∙ ap tail old.2
      | inr (inl at_m) ↦ ap tail (ap after at_m ∙ is.turns_new) ∙ tail_x ∙ sym tail_m ∙ ap tail (sym at_m)
      | inr (inr at_x) ↦ ap tail (ap after at_x ∙ is.turns_back) ∙ tail_m ∙ sym tail_x ∙ ap tail (sym at_x)
    ];
    one_ring = round;
  }

  -- the chains: the divided segment has two steps each way
  abbrev steps : ℕ → ℕ
  steps d = cond (eqb (d / 2) s) 1 0

  cases_steps : (d : ℕ) → ((d / 2 ≡ s) × (steps d ≡ 1)) ⊎ ((d / 2 ≢ s) × (steps d ≡ 0))
  cases_steps d = elim (cases_eq (d / 2) s) [
    | inl here ↦ inl (here, cond-true _ _ _ (eq-eqb _ _ here))
    | inr other ↦ inr (other, cond-false _ _ _ (ne_eqb _ _ other))
  ]

  abbrev chain : ℕ → ℕ → ℕ
  chain = along_chain after now

  chain_first : chain (2 * s) 1 ≡ x
  chain_first = ap (face_step after) now_first ∙ ap after (reverse-even s) ∙ is.turns_new

  chain_second : chain m 1 ≡ m
  chain_second = ap (face_step after) now_m ∙ ap after (reverse-odd last) ∙ is.turns_back

  which : (d : ℕ) → d / 2 ≡ s → (d ≡ 2 * s) ⊎ (d ≡ m)
  which d here = elim (cases_eq d m) [ inl at_m ↦ inr at_m | inr other ↦ let c = cases_dart d in inl (omega (arith, here, other, c.1)) ]

  -- one step along a chain
  one_step : (d i : ℕ) → d < x → suc i ≤ steps d → (i ≡ 0) × (((d ≡ 2 * s) × (chain d (suc i) ≡ x)) ⊎ ((d ≡ m) × (chain d (suc i) ≡ m)))
  one_step d i d_in i_in = elim (cases_steps d) [
    | inr none ↦ absurd (omega (arith, none, i_in))
    | inl one ↦
        let zero_is : i ≡ 0 = omega (arith, one, i_in) in
        let count : suc i ≡ 1 = omega (arith, zero_is) in (
          zero_is,
          elim (which d one.0) [
            | inl first ↦ inl (first, ap (chain d) count ∙ ap (λ c. chain c 1) first ∙ chain_first)
            | inr second ↦ inr (second, ap (chain d) count ∙ ap (λ c. chain c 1) second ∙ chain_second)
          ],
        )
  ]

  steps_first : steps (2 * s) ≡ 1
  steps_first = let half : (2 * s) / 2 ≡ s = omega arith in cond-true _ _ _ (eq-eqb _ _ half)

  steps_m : steps m ≡ 1
  steps_m = let half : m / 2 ≡ s = omega arith in cond-true _ _ _ (eq-eqb _ _ half)

  arrives : (d : ℕ) → d < x → chain d (steps d) ≡ reverse_of (now (reverse_of d))
  arrives d d_in = elim (cases_steps d) [
    | inr none ↦
        let c = cases_dart d in
        let other : d ≢ m = λ same. none.0 (omega (arith, same)) in
        let far : reverse_of d ≢ m = λ same. elim c.1 [
          | inl even ↦ none.0 (omega (arith, even, ap reverse_of even, reverse-even c.0, same))
          | inr odd ↦ let r : reverse_of d ≡ 2 * c.0 = ap reverse_of odd ∙ reverse-odd c.0 in omega (arith, r, same)
        ] in
        ap (chain d) none.1 ∙ now_other d other ∙ sym (ap reverse_of (now_other (reverse_of d) far) ∙ reverse-reverse d)
    | inl one ↦ elim (which d one.0) [
      | inl first ↦
          ap (λ c. chain c (steps c)) first ∙ ap (chain (2 * s)) steps_first ∙ chain_first
          ∙ sym (ap (λ c. reverse_of (now (reverse_of c))) first ∙ ap (λ c. reverse_of (now c)) (reverse-even s) ∙ ap reverse_of now_m ∙ reverse-odd last)
      | inr second ↦
          ap (λ c. chain c (steps c)) second ∙ ap (chain m) steps_m ∙ chain_second
          ∙ sym (ap (λ c. reverse_of (now (reverse_of c))) second ∙ ap (λ c. reverse_of (now c)) (reverse-odd s) ∙ ap reverse_of now_first ∙ reverse-even s)
    ]
  ]

  chains_apart : (i j l : ℕ) → i < x → j < x → l ≤ steps j → chain j l ≡ now i → (i ≡ j) × (l ≡ 0)
  chains_apart i j zero i_in j_in l_in same = (now_apart i j i_in j_in (sym same), refl)
  chains_apart i j (suc l) i_in j_in l_in same = elim (one_step j l j_in l_in).1 [
    | inl first ↦ absurd (now_not_x i i_in (sym same ∙ first.1))
    | inr second ↦ absurd (now_not_m i i_in (sym same ∙ second.1))
  ]

  two_darts : (j i : ℕ) → j < x → i < steps j → after (after (reverse_of (chain j i))) ≡ reverse_of (chain j i)
  two_darts j i j_in i_in =
      let one = one_step j i j_in i_in in
      let swap : (d : ℕ) → d ≡ m → after (after d) ≡ d = λ d at. ap (λ e. after (after e)) at ∙ ap after is.turns_new ∙ is.turns_back ∙ sym at in
      let back : (d : ℕ) → d ≡ x → after (after d) ≡ d = λ d at. ap (λ e. after (after e)) at ∙ ap after is.turns_back ∙ is.turns_new ∙ sym at in
      elim one.1 [
        | inl first ↦ swap (reverse_of (chain j i)) (ap (λ k. reverse_of (chain j k)) one.0 ∙ ap (λ c. reverse_of (now c)) first.0 ∙ ap reverse_of now_first ∙ reverse-even s)
        | inr second ↦ back (reverse_of (chain j i)) (ap (λ k. reverse_of (chain j k)) one.0 ∙ ap (λ c. reverse_of (now c)) second.0 ∙ ap reverse_of now_m ∙ reverse-odd last)
      ]

  covers : (d : ℕ) → d < 2 * length more → (j : ℕ) × (j < x) × (i : ℕ) × (i ≤ steps j) × (chain j i ≡ d)
  covers d d_in = elim (cases_more d d_in) [
    | inl old ↦ (old.0, old.1, 0, omega arith, old.2)
    | inr (inl at_m) ↦ (m, m_in, 1, omega (arith, steps_m), chain_second ∙ sym at_m)
    | inr (inr at_x) ↦ (2 * s, first_in, 1, omega (arith, steps_first), chain_first ∙ sym at_x)
  ]

  pub is_contraction : IsContraction (suc nodes) more after nodes ends next now steps (λ w. w)
  is_contraction = record {
    ends_in = map.ends_in;
    starts_in = now_in;
    below = map.permutes.below;
    turns = λ d d_in. sym (is.turns d d_in);
    arrives = arrives;
    covers = covers;
    apart = chains_apart;
    two_darts = two_darts;
    nodes_in = λ w w_in. omega (arith, w_in);
    nodes_apart = λ u v u_in v_in same. same;
    tails = tail_now;
    inner = λ j i w j_in i_in w_in at. elim (one_step j i j_in i_in).1 [
      | inl first ↦ omega (arith, ap tail first.1, tail_x, at, w_in)
      | inr second ↦ omega (arith, ap tail second.1, tail_m, at, w_in)
    ];
    lone = λ w w_in alone. elim (cases_eq w nodes) [
      | inl new ↦ absurd (no_dart_if_lone more w alone m wide_m (tail_m ∙ sym new))
      | inr old ↦ (w, omega (arith, w_in, old), refl)
    ];
    as_many = omega (arith, is.longer);
  }

  pub faces_more : face_count (suc nodes) more after ≡ face_count nodes ends next
  faces_more = sym (faces_left (suc nodes) nodes more ends after next now steps (λ w. w) map_more is_contraction)

  pub components_more : component_count (suc nodes) more ≡ component_count nodes ends
  components_more = sym (components_left (suc nodes) nodes more ends after next now steps (λ w. w) map_more is_contraction)
