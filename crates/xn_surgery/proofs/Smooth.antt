-- A node with two darts goes: its two segments are a chain.
use Rattle.std.proofs.Common.{◌≡◌, ◌≢◌, ◌↔◌, ℕ, zero, suc, ◌+◌, ◌*◌, ◌/◌, ◌%◌, ◌<◌, ◌≤◌, ◌⊎◌, inl, inr, cond, eqb, List, length, refl, sym, ◌∙◌, ap, arith}
use Rattle.std.proofs.lemmas.Bool.{cases_eq, cond-true, cond-false, eq-eqb, ne_eqb}
use Rattle.xn_model.specs.Map.{MeetsEuler, IsMap, component_count, face_count, face_step, reverse_of, tail_of}
use Rattle.xn_surgery.specs.Contraction.{IsContraction, along_chain}
use Rattle.xn_genus.specs.Deletion.{dart_before}
use Rattle.xn_surgery.specs.Smoothing.{IsSmoothing, dart_smoothed, node_before}
use Rattle.xn_model.proofs.Darts.{cases_dart, reverse-even, reverse-odd, reverse-reverse, reverse_below}
use Rattle.xn_genus.proofs.Compress.{EndsIn_tails, half_reverse, tail_in}
use Rattle.xn_surgery.proofs.Contract.{components_left, faces_left, map_left}
use Rattle.xn_genus.proofs.Lone.{no_dart_if_lone}

module _ (rest p q : ℕ) (ends left : List (ℕ × ℕ)) (next after : ℕ → ℕ) (map : IsMap (suc rest) ends next) (is : IsSmoothing rest ends next p q left after) where
  abbrev last : ℕ
  last = length left

  abbrev v : ℕ
  v = tail_of ends p

  abbrev r : ℕ
  r = reverse_of q

  abbrev e : ℕ → ℕ
  e = dart_before (q / 2) last

  abbrev start : ℕ → ℕ
  start = dart_smoothed p q last

  abbrev node : ℕ → ℕ
  node = node_before v rest

  v_in : v < suc rest
  v_in = tail_in (suc rest) ends map.ends_in p is.first_in

  q_at_v : tail_of ends q ≡ v
  q_at_v = sym (ap (tail_of ends) is.to_second) ∙ map.same_node p is.first_in

  r_half : r / 2 ≡ q / 2
  r_half = half_reverse q

  rp_half : reverse_of p / 2 ≡ p / 2
  rp_half = half_reverse p

  r_not_q : r ≢ q
  r_not_q same = let c = cases_dart q in elim c.1 [
    | inl even ↦ omega (arith, ap reverse_of even, reverse-even c.0, same, even)
    | inr odd ↦ omega (arith, ap reverse_of odd, reverse-odd c.0, same, odd)
  ]

  cases_e : (j : ℕ) → ((j / 2 ≡ q / 2) × (e j ≡ 2 * last + j % 2)) ⊎ ((j / 2 ≢ q / 2) × (e j ≡ j))
  cases_e j = elim (cases_eq (j / 2) (q / 2)) [
    | inl here ↦ inl (here, cond-true _ _ _ (eq-eqb _ _ here))
    | inr other ↦ inr (other, cond-false _ _ _ (ne_eqb _ _ other))
  ]

  cases_start : (j : ℕ) → ((e j ≡ p) × (start j ≡ r)) ⊎ ((e j ≢ p) × (start j ≡ e j))
  cases_start j = elim (cases_eq (e j) p) [
    | inl here ↦ inl (here, cond-true _ _ _ (eq-eqb _ _ here))
    | inr other ↦ inr (other, cond-false _ _ _ (ne_eqb _ _ other))
  ]

  q_half_in : q / 2 < suc last
  q_half_in = omega (arith, is.second_in, is.fewer)

  -- a dart of what is left stands in no place of q's segment, but for p
  e_other : (j : ℕ) → j < 2 * last → e j / 2 ≢ q / 2
  e_other j j_in same = omega (arith, same, cases_e j, j_in, q_half_in)

  e_apart : (i j : ℕ) → i < 2 * last → j < 2 * last → e i ≡ e j → i ≡ j
  e_apart i j i_in j_in same = omega (arith, same, cases_e i, cases_e j, i_in, j_in)

  e_in : (j : ℕ) → j < 2 * last → e j < 2 * length ends
  e_in j j_in = omega (arith, cases_e j, j_in, is.fewer)

  start_apart : (i j : ℕ) → i < 2 * last → j < 2 * last → start i ≡ start j → i ≡ j
  start_apart i j i_in j_in same = e_apart i j i_in j_in (elim (cases_start i) [
    | inl moved_i ↦ elim (cases_start j) [
      | inl moved_j ↦ moved_i.0 ∙ sym moved_j.0
      | inr stays_j ↦ absurd (e_other j j_in (ap (λ x. x / 2) (sym stays_j.1 ∙ sym same ∙ moved_i.1) ∙ r_half))
    ]
    | inr stays_i ↦ elim (cases_start j) [
      | inl moved_j ↦ absurd (e_other i i_in (ap (λ x. x / 2) (sym stays_i.1 ∙ same ∙ moved_j.1) ∙ r_half))
      | inr stays_j ↦ sym stays_i.1 ∙ same ∙ stays_j.1
    ]
  ])

  start_not_p : (j : ℕ) → j < 2 * last → start j ≢ p
  start_not_p j j_in same = elim (cases_start j) [
    | inl moved ↦ omega (arith, moved.1, same, r_half, is.smaller)
    | inr stays ↦ stays.0 (sym stays.1 ∙ same)
  ]

  start_not_q : (j : ℕ) → j < 2 * last → start j ≢ q
  start_not_q j j_in same = elim (cases_start j) [
    | inl moved ↦ r_not_q (sym moved.1 ∙ same)
    | inr stays ↦ e_other j j_in (ap (λ x. x / 2) (sym stays.1 ∙ same))
  ]

  -- the segment of p keeps its number
  p_in : p < 2 * last
  p_in = omega (arith, is.smaller, q_half_in)

  rp_in : reverse_of p < 2 * last
  rp_in = reverse_below last p p_in

  e_small : (j : ℕ) → j / 2 ≢ q / 2 → e j ≡ j
  e_small j other = cond-false _ _ _ (ne_eqb _ _ other)

  start_p : start p ≡ r
  start_p = cond-true _ _ _ (eq-eqb _ _ (e_small p (λ same. omega (arith, same, is.smaller))))

  p_not_rp : p ≢ reverse_of p
  p_not_rp same = let c = cases_dart p in elim c.1 [
    | inl even ↦ omega (arith, ap reverse_of even, reverse-even c.0, same, even)
    | inr odd ↦ omega (arith, ap reverse_of odd, reverse-odd c.0, same, odd)
  ]

  start_rp : start (reverse_of p) ≡ reverse_of p
  start_rp =
      let is_e = e_small (reverse_of p) (λ same. omega (arith, same, rp_half, is.smaller)) in
      cond-false _ _ _ (ne_eqb _ _ (λ same. p_not_rp (sym same ∙ is_e))) ∙ is_e

  start_other : (j : ℕ) → e j ≢ p → start j ≡ e j
  start_other j other = cond-false _ _ _ (ne_eqb _ _ other)

  cases_all : (d : ℕ) → d < 2 * length ends → ((j : ℕ) × (j < 2 * last) × (start j ≡ d)) ⊎ ((d ≡ p) ⊎ (d ≡ q))
  cases_all d d_in = elim (cases_eq d p) [
    | inl at_p ↦ inr (inl at_p)
    | inr not_p ↦ elim (cases_eq d q) [
      | inl at_q ↦ inr (inr at_q)
      | inr not_q ↦ elim (cases_eq (d / 2) (q / 2)) [
        | inl far ↦ inl (p, p_in, start_p ∙ is_r far not_q)
        | inr other ↦ elim (cases_eq (d / 2) last) [
          | inl at_last ↦
              let j = 2 * (q / 2) + d % 2 in
              let half : j / 2 ≡ q / 2 = omega arith in
              let bit : j % 2 ≡ d % 2 = omega arith in
              let e_j : e j ≡ d = cond-true _ _ _ (eq-eqb _ _ half) ∙ omega (arith, bit, at_last) in
              inl (j, omega (arith, other, at_last, q_half_in), start_other j (λ same. not_p (sym e_j ∙ same)) ∙ e_j)
          | inr before ↦
              let e_d = e_small d other in
              inl (d, omega (arith, d_in, is.fewer, before), start_other d (λ same. not_p (sym e_d ∙ same)) ∙ e_d)
        ]
      ]
    ]
  ]
    where
      is_r : d / 2 ≡ q / 2 → d ≢ q → r ≡ d
      is_r half other = let c = cases_dart q in elim c.1 [
        | inl even ↦ omega (arith, ap reverse_of even, reverse-even c.0, even, half, other)
        | inr odd ↦ omega (arith, ap reverse_of odd, reverse-odd c.0, odd, half, other)
      ]

  -- the chains: the segment of p has two steps each way
  abbrev steps : ℕ → ℕ
  steps j = cond (eqb (j / 2) (p / 2)) 1 0

  cases_steps : (j : ℕ) → ((j / 2 ≡ p / 2) × (steps j ≡ 1)) ⊎ ((j / 2 ≢ p / 2) × (steps j ≡ 0))
  cases_steps j = elim (cases_eq (j / 2) (p / 2)) [
    | inl here ↦ inl (here, cond-true _ _ _ (eq-eqb _ _ here))
    | inr other ↦ inr (other, cond-false _ _ _ (ne_eqb _ _ other))
  ]

  abbrev chain : ℕ → ℕ → ℕ
  chain = along_chain next start

  chain_p : chain p 1 ≡ p
  chain_p = ap (face_step next) start_p ∙ ap next (reverse-reverse q) ∙ is.to_first

  chain_rp : chain (reverse_of p) 1 ≡ q
  chain_rp = ap (face_step next) start_rp ∙ ap next (reverse-reverse p) ∙ is.to_second

  which : (j : ℕ) → j / 2 ≡ p / 2 → (j ≡ p) ⊎ (j ≡ reverse_of p)
  which j half = elim (cases_eq j p) [
    | inl same ↦ inl same
    | inr other ↦ let c = cases_dart p in inr (elim c.1 [
      | inl even ↦ omega (arith, ap reverse_of even, reverse-even c.0, even, half, other)
      | inr odd ↦ omega (arith, ap reverse_of odd, reverse-odd c.0, odd, half, other)
    ])
  ]

  one_step : (j i : ℕ) → suc i ≤ steps j → (i ≡ 0) × (((j ≡ p) × (chain j (suc i) ≡ p)) ⊎ ((j ≡ reverse_of p) × (chain j (suc i) ≡ q)))
  one_step j i i_in = elim (cases_steps j) [
    | inr none ↦ absurd (omega (arith, none, i_in))
    | inl one ↦
        let zero_is : i ≡ 0 = omega (arith, one, i_in) in
        let count : suc i ≡ 1 = omega (arith, zero_is) in (
          zero_is,
          elim (which j one.0) [
            | inl first ↦ inl (first, ap (chain j) count ∙ ap (λ c. chain c 1) first ∙ chain_p)
            | inr second ↦ inr (second, ap (chain j) count ∙ ap (λ c. chain c 1) second ∙ chain_rp)
          ],
        )
  ]

  steps_p : steps p ≡ 1
  steps_p = cond-true _ _ _ (eq-eqb (p / 2) (p / 2) refl)

  steps_rp : steps (reverse_of p) ≡ 1
  steps_rp = cond-true _ _ _ (eq-eqb _ _ rp_half)

  e_reverse : (j : ℕ) → e (reverse_of j) ≡ reverse_of (e j)
  e_reverse j =
      let c = cases_dart j in
      let h = half_reverse j in
      elim (cases_e j) [
        | inr stays ↦ e_small (reverse_of j) (λ same. stays.0 (sym h ∙ same)) ∙ ap reverse_of (sym stays.1)
        | inl moved ↦
            let there : e (reverse_of j) ≡ 2 * last + reverse_of j % 2 = cond-true _ _ _ (eq-eqb _ _ (h ∙ moved.0)) in
            elim c.1 [
              | inl even ↦
                  let rj : reverse_of j ≡ 2 * c.0 + 1 = ap reverse_of even ∙ reverse-even c.0 in
                  let one : e (reverse_of j) ≡ 2 * last + 1 = omega (arith, there, rj) in
                  let two : e j ≡ 2 * last = omega (arith, moved.1, even) in
                  one ∙ sym (reverse-even last) ∙ ap reverse_of (sym two)
              | inr odd ↦
                  let rj : reverse_of j ≡ 2 * c.0 = ap reverse_of odd ∙ reverse-odd c.0 in
                  let one : e (reverse_of j) ≡ 2 * last = omega (arith, there, rj) in
                  let two : e j ≡ 2 * last + 1 = omega (arith, moved.1, odd) in
                  one ∙ sym (reverse-odd last) ∙ ap reverse_of (sym two)
            ]
      ]

  arrives : (j : ℕ) → j < 2 * last → chain j (steps j) ≡ reverse_of (start (reverse_of j))
  arrives j j_in = elim (cases_steps j) [
    | inr none ↦
        let h = half_reverse j in
        let other : (d : ℕ) → d / 2 ≡ j / 2 → e d ≢ p = λ d half same. omega (arith, same, cases_e d, half, none, is.smaller, q_half_in) in
        ap (chain j) none.1 ∙ start_other j (other j refl)
        ∙ sym (ap reverse_of (start_other (reverse_of j) (other (reverse_of j) h) ∙ e_reverse j) ∙ reverse-reverse (e j))
    | inl one ↦ elim (which j one.0) [
      | inl first ↦
          ap (λ c. chain c (steps c)) first ∙ ap (chain p) steps_p ∙ chain_p
          ∙ sym (ap (λ c. reverse_of (start (reverse_of c))) first ∙ ap reverse_of start_rp ∙ reverse-reverse p)
      | inr second ↦
          ap (λ c. chain c (steps c)) second ∙ ap (chain (reverse_of p)) steps_rp ∙ chain_rp
          ∙ sym (ap (λ c. reverse_of (start (reverse_of c))) second ∙ ap (λ c. reverse_of (start c)) (reverse-reverse p) ∙ ap reverse_of start_p ∙ reverse-reverse q)
    ]
  ]

  chains_apart : (i j l : ℕ) → i < 2 * last → j < 2 * last → l ≤ steps j → chain j l ≡ start i → (i ≡ j) × (l ≡ 0)
  chains_apart i j zero i_in j_in l_in same = (start_apart i j i_in j_in (sym same), refl)
  chains_apart i j (suc l) i_in j_in l_in same = elim (one_step j l l_in).1 [
    | inl first ↦ absurd (start_not_p i i_in (sym same ∙ first.1))
    | inr second ↦ absurd (start_not_q i i_in (sym same ∙ second.1))
  ]

  two_darts : (j i : ℕ) → j < 2 * last → i < steps j → next (next (reverse_of (chain j i))) ≡ reverse_of (chain j i)
  two_darts j i j_in i_in =
      let one = one_step j i i_in in
      let at_p : (d : ℕ) → d ≡ p → next (next d) ≡ d = λ d at. ap (λ x. next (next x)) at ∙ ap next is.to_second ∙ is.to_first ∙ sym at in
      let at_q : (d : ℕ) → d ≡ q → next (next d) ≡ d = λ d at. ap (λ x. next (next x)) at ∙ ap next is.to_first ∙ is.to_second ∙ sym at in
      elim one.1 [
        | inl first ↦ at_q (reverse_of (chain j i)) (ap (λ k. reverse_of (chain j k)) one.0 ∙ ap (λ c. reverse_of (start c)) first.0 ∙ ap reverse_of start_p ∙ reverse-reverse q)
        | inr second ↦ at_p (reverse_of (chain j i)) (ap (λ k. reverse_of (chain j k)) one.0 ∙ ap (λ c. reverse_of (start c)) second.0 ∙ ap reverse_of start_rp ∙ reverse-reverse p)
      ]

  covers : (d : ℕ) → d < 2 * length ends → (j : ℕ) × (j < 2 * last) × (i : ℕ) × (i ≤ steps j) × (chain j i ≡ d)
  covers d d_in = elim (cases_all d d_in) [
    | inl old ↦ (old.0, old.1, 0, omega arith, old.2)
    | inr (inl at_p) ↦ (p, p_in, 1, omega (arith, steps_p), chain_p ∙ sym at_p)
    | inr (inr at_q) ↦ (reverse_of p, rp_in, 1, omega (arith, steps_rp), chain_rp ∙ sym at_q)
  ]

  cases_node : (w : ℕ) → ((w ≡ v) × (node w ≡ rest)) ⊎ ((w ≢ v) × (node w ≡ w))
  cases_node w = elim (cases_eq w v) [
    | inl here ↦ inl (here, cond-true _ _ _ (eq-eqb _ _ here))
    | inr other ↦ inr (other, cond-false _ _ _ (ne_eqb _ _ other))
  ]

  pub is_contraction : IsContraction (suc rest) ends next rest left after start steps node
  is_contraction = record {
    ends_in = EndsIn_tails rest left is.ends_in;
    starts_in = λ j j_in. elim (cases_start j) [
      | inl moved ↦ let low = reverse_below (length ends) q is.second_in in omega (arith, moved.1, low)
      | inr stays ↦ let low = e_in j j_in in omega (arith, stays.1, low)
    ];
    below = is.below;
    turns = is.turns;
    arrives = arrives;
    covers = covers;
    apart = chains_apart;
    two_darts = two_darts;
    nodes_in = λ w w_in. omega (arith, w_in, cases_node w);
    nodes_apart = λ u w u_in w_in same. omega (arith, same, u_in, w_in, cases_node u, cases_node w);
    tails = λ j j_in. sym (is.tails j j_in);
    inner = λ j i w j_in i_in w_in at. elim (one_step j i i_in).1 [
      | inl first ↦ omega (arith, ap (tail_of ends) first.1, at, w_in, cases_node w)
      | inr second ↦ omega (arith, ap (tail_of ends) second.1, q_at_v, at, w_in, cases_node w)
    ];
    lone = λ w w_in alone.
        let not_v : w ≢ v = λ same. no_dart_if_lone ends w alone p is.first_in (sym same) in
        elim (cases_eq w rest) [
          | inl top ↦ (v, omega (arith, v_in, not_v, top), cond-true _ _ _ (eq-eqb v v refl) ∙ sym top)
          | inr low ↦ (w, omega (arith, w_in, low), cond-false _ _ _ (ne_eqb w v not_v))
        ];
    as_many = omega (arith, is.fewer);
  }

  pub map_smoothed : IsMap rest left after
  map_smoothed = map_left (suc rest) rest ends left next after start steps node map is_contraction

  pub faces_smoothed : face_count rest left after ≡ face_count (suc rest) ends next
  faces_smoothed = faces_left (suc rest) rest ends left next after start steps node map is_contraction

  pub components_smoothed : component_count rest left ≡ component_count (suc rest) ends
  components_smoothed = components_left (suc rest) rest ends left next after start steps node map is_contraction

  pub smoothing_flat : MeetsEuler (suc rest) ends next ↔ MeetsEuler rest left after
  smoothing_flat = (
    λ flat. omega (arith, flat, faces_smoothed, components_smoothed, is.fewer),
    λ flat. omega (arith, flat, faces_smoothed, components_smoothed, is.fewer),
  )
