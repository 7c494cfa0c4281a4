-- A rim that begins at any dart, and its arcs where all neighbours of one node lie before the next of the other.
use Rattle.std.proofs.Common.{◌≡◌, ◌≢◌, ℕ, zero, suc, ◌+◌, ◌-◌, ◌/◌, ◌<◌, ◌≤◌, ◌⊎◌, inl, inr, Bool, true, false, List, length, refl, sym, ◌∙◌, ap, subst, arith}
use Rattle.std.proofs.lemmas.Bool.{both_ways, cases_Bool, cases_eq, cases_lt}
use Rattle.xn_model.specs.Lists.{at}
use Rattle.xn_model.specs.Map.{IsFlat, reverse_of, tail_of}
use Rattle.xn_kuratowski.specs.Minor.{HasMinor}
use Rattle.xn_kuratowski.proofs.Arcs.{IsRing, arcs_of_ring, cases_swapped, one_dart, pair_ends, renamed_flat, renamed_map, ring_renamed, swapped, x_dart, x_head, y_dart, y_head}
use Rattle.xn_kuratowski.proofs.Rim.{Adjacent, HasArcs, AreStars, IsRim, is_second, web_of_stars, web_merged}
use Rattle.xn_kuratowski.proofs.RimMinors.{IsHead, alternating}
use Rattle.xn_kuratowski.proofs.Stars.{dart_at_x}

module _ (nodes : ℕ) (rest : List (ℕ × ℕ)) (x y : ℕ) (xs ys : List ℕ) (is : AreStars nodes rest x y xs ys) (next : ℕ → ℕ)
    (flat_map : IsFlat (record { nodes = nodes; ends = web_merged rest x xs ys }) next) (two_x : 1 < length xs) (two_y : 1 < length ys) where
  abbrev ends : List (ℕ × ℕ)
  ends = web_merged rest x xs ys

  abbrev head : ℕ → ℕ
  head d = tail_of ends (reverse_of d)

  abbrev is_y : ℕ → Bool
  is_y d = is_second rest xs d

  -- ---- a rim that begins at a dart of the first star

  module _ (l n : ℕ) (rim spokes place : ℕ → ℕ) (R : IsRim rest ends next x l n rim spokes place) (base : place 0 ≡ 0) where
    mono : (i k : ℕ) → place i ≤ place (i + k)
    mono i zero = let z : i + 0 ≡ i = omega arith in let e = ap place z in omega (arith, e)
    mono i (suc k) =
        let before = mono i k in
        let on = R.rise (i + k) in
        let z : i + suc k ≡ suc (i + k) = omega arith in
        let e = ap place z in
        omega (arith, before, on, e)

    up : (i j : ℕ) → i ≤ j → place i ≤ place j
    up i j low = let one = mono i (j - i) in let z : i + (j - i) ≡ j = omega (arith, low) in let e = ap place z in omega (arith, one, e)

    place_n : place n ≡ l
    place_n = let one = R.place_round 0 in let z : 0 + n ≡ n = omega arith in let e = ap place z in omega (arith, one, e, base)

    place_in : (i : ℕ) → i < n → place i ≤ l
    place_in i i_in = let one = up i n (omega (arith, i_in)) in omega (arith, one, place_n)

    pub rim_l : rim l ≡ rim 0
    rim_l = let z : l ≡ 0 + l = omega arith in ap rim z ∙ R.rim_round 0

    -- a spoke's place on the rim below l
    pub spot : (i : ℕ) → i < n → (j : ℕ) × (j < l) × (rim j ≡ head (spokes i)) × ((place i ≡ j) ⊎ ((place i ≡ l) × (j ≡ 0)))
    spot i i_in = elim (cases_lt (place i) l) [
      | inl low ↦ (place i, low, R.places i, inl refl)
      | inr high ↦
          let e : place i ≡ l = let low = place_in i i_in in omega (arith, low, high) in
          (0, R.some, sym rim_l ∙ ap rim (sym e) ∙ R.places i, inr (e, refl))
    ]

    -- the place of a head
    pub x_spot : (k : ℕ) → k < length xs → (j : ℕ) × (j < l) × (rim j ≡ at xs k)
    x_spot k k_in =
        let d = x_dart nodes rest x y xs ys is k k_in in
        let i = R.all d.0 d.1 d.2 in
        let found = spot i.0 i.1 in
        (found.0, found.1, found.2 ∙ ap head i.2 ∙ d.4)

    pub y_spot : (k : ℕ) → k < length ys → (j : ℕ) × (j < l) × (rim j ≡ at ys k)
    y_spot k k_in =
        let d = y_dart nodes rest x y xs ys is k k_in in
        let i = R.all d.0 d.1 d.2 in
        let found = spot i.0 i.1 in
        (found.0, found.1, found.2 ∙ ap head i.2 ∙ d.4)

    -- the spoke to a neighbour of x on the rim
    pub x_index : (j : ℕ) → 0 < j → j < l → IsHead xs (rim j) → (i : ℕ) × (i < n) × (is_y (spokes i) ≡ false) × (place i ≡ j)
    x_index j some j_in at_j =
        let d = x_dart nodes rest x y xs ys is at_j.0 at_j.1 in
        let i = R.all d.0 d.1 d.2 in
        let found = spot i.0 i.1 in
        let same : found.0 ≡ j = R.once found.0 j found.1 j_in (found.2 ∙ ap head i.2 ∙ d.4 ∙ at_j.2) in
        (i.0, i.1, ap is_y i.2 ∙ d.3, omega (arith, found.3, same, some))

    ring : IsRing ends next x n spokes
    ring = record { some = R.spokes_some; inside = R.spokes_in; once = R.spokes_once; one_ring = R.spokes_round; all = R.all; turn = R.turn }

    -- two spokes of a kind at one node are one
    one_spoke : (i j : ℕ) → i < n → j < n → is_y (spokes i) ≡ is_y (spokes j) → head (spokes i) ≡ head (spokes j) → i ≡ j
    one_spoke i j i_in j_in alike heads =
        let a = R.spokes_in i in
        let b = R.spokes_in j in
        R.spokes_once i j i_in j_in (one_dart nodes rest x y xs ys is (spokes i) (spokes j) a.0 b.0 a.1 b.1 alike heads)

    -- ---- all neighbours of y up to the next neighbour of x

    module _ (start : is_y (spokes 0) ≡ false) (Q : ℕ) (Q_some : 0 < Q) (Q_in : Q < l) (x_Q : IsHead xs (rim Q)) (gap : (j : ℕ) → 0 < j → j < Q → IsHead xs (rim j) → ⊥)
        (all_y : (k : ℕ) → k < length ys → (j : ℕ) × (j ≤ Q) × (rim j ≡ at ys k)) where
      at_Q : (i : ℕ) × (i < n) × (is_y (spokes i) ≡ false) × (place i ≡ Q)
      at_Q = x_index Q Q_some Q_in x_Q

      abbrev q : ℕ
      q = at_Q.0

      q_some : 0 < q
      q_some = elim (cases_eq q 0) [
        | inr some ↦ omega (arith, some)
        | inl none ↦ let e = ap place none in absurd (omega (arith, e, at_Q.3, base, Q_some))
      ]

      head_0 : head (spokes 0) ≡ rim 0
      head_0 = sym (R.places 0) ∙ ap rim base

      head_Q : head (spokes q) ≡ rim Q
      head_Q = sym (R.places q) ∙ ap rim at_Q.3

      -- before Q there are darts to y alone
      before : (i : ℕ) → 0 < i → i < q → is_y (spokes i) ≡ true
      before i some low = elim (cases_Bool (is_y (spokes i))) [
        | inl yes_y ↦ yes_y
        | inr first ↦
            let i_in : i < n = omega (arith, low, at_Q.1) in
            let d = R.spokes_in i in
            let high : place i ≤ Q = let one = up i q (omega (arith, low)) in omega (arith, one, at_Q.3) in
            let heads = x_head nodes rest x y xs ys is (spokes i) d.0 d.1 first in
            absurd (elim (cases_eq (place i) 0) [
              | inl at_0 ↦
                  let e = one_spoke i 0 i_in R.spokes_some (first ∙ sym start) (sym (R.places i) ∙ ap rim at_0 ∙ sym head_0) in
                  omega (arith, e, some)
              | inr not_0 ↦ elim (cases_eq (place i) Q) [
                | inl at_end ↦
                    let e = one_spoke i q i_in at_Q.1 (first ∙ sym at_Q.2) (sym (R.places i) ∙ ap rim at_end ∙ sym head_Q) in
                    omega (arith, e, low)
                | inr not_end ↦ gap (place i) (omega (arith, not_0)) (omega (arith, high, not_end)) (heads.0, heads.1, heads.2 ∙ sym (R.places i))
              ]
            ])
      ]

      -- after it there are two at most, right after it and last
      after : (i : ℕ) → q < i → i < n → is_y (spokes i) ≡ true → ((place i ≡ Q) × (i ≡ suc q)) ⊎ ((place i ≡ l) × (suc i ≡ n) × (head (spokes i) ≡ head (spokes 0)))
      after i high i_in label =
          let d = R.spokes_in i in
          let heads = y_head nodes rest x y xs ys is (spokes i) d.0 d.1 label in
          let j = all_y heads.0 heads.1 in
          let low : Q ≤ place i = let one = up q i (omega (arith, high)) in omega (arith, one, at_Q.3) in
          let top = place_in i i_in in
          elim (cases_eq (place i) l) [
            | inl at_l ↦
                let meets : head (spokes i) ≡ head (spokes 0) = sym (R.places i) ∙ ap rim at_l ∙ rim_l ∙ sym head_0 in
                inr (
                  at_l,
                  elim (cases_eq (suc i) n) [
                    | inl last ↦ last
                    | inr more ↦
                        let k = suc i in
                        let k_in : k < n = omega (arith, i_in, more) in
                        let k_at : place k ≡ l = let one = up i k (omega arith) in let two = place_in k k_in in omega (arith, one, two, at_l) in
                        let k_head : head (spokes k) ≡ rim 0 = sym (R.places k) ∙ ap rim k_at ∙ rim_l in
                        absurd (elim (cases_Bool (is_y (spokes k))) [
                          | inl also ↦ let e = one_spoke k i k_in i_in (also ∙ sym label) (k_head ∙ sym head_0 ∙ sym meets) in omega (arith, e)
                          | inr first ↦ let e = one_spoke k 0 k_in R.spokes_some (first ∙ sym start) (k_head ∙ sym head_0) in omega (arith, e)
                        ])
                  ],
                  meets,
                )
            | inr not_l ↦
                let place_low : place i < l = omega (arith, top, not_l) in
                let same : j.0 ≡ place i = R.once j.0 (place i) (omega (arith, j.1, Q_in)) place_low (j.2 ∙ heads.2 ∙ sym (R.places i)) in
                let at_end : place i ≡ Q = omega (arith, same, j.1, low) in
                inl (
                  at_end,
                  elim (cases_eq i (suc q)) [
                    | inl next_one ↦ next_one
                    | inr later ↦
                        let k = suc q in
                        let k_in : k < n = omega (arith, high, i_in, later) in
                        let k_at : place k ≡ Q = let one = up q k (omega arith) in let two = up k i (omega (arith, high)) in omega (arith, one, two, at_end, at_Q.3) in
                        let k_head : head (spokes k) ≡ rim Q = sym (R.places k) ∙ ap rim k_at in
                        let i_head : head (spokes i) ≡ rim Q = sym (R.places i) ∙ ap rim at_end in
                        absurd (elim (cases_Bool (is_y (spokes k))) [
                          | inl also ↦ let e = one_spoke k i k_in i_in (also ∙ sym label) (k_head ∙ sym i_head) in omega (arith, e, later)
                          | inr first ↦ let e = one_spoke k q k_in at_Q.1 (first ∙ sym at_Q.2) (k_head ∙ sym head_Q) in omega (arith, e)
                        ])
                  ],
                )
          ]

      -- none right after it
      plain : (suc q < n → is_y (spokes (suc q)) ≡ true → place (suc q) ≡ Q → ⊥) → HasArcs nodes rest x xs ys
      plain none =
          let tied : (i : ℕ) → q < i → i < n → is_y (spokes i) ≡ true → (place i ≡ l) × (suc i ≡ n) × (head (spokes i) ≡ head (spokes 0)) = λ i high i_in label. elim (after i high i_in label) [
            | inl right ↦
                let P : ℕ → Type 0 = λ t. (t < n) × (is_y (spokes t) ≡ true) × (place t ≡ Q) in
                let at_next = subst P right.1 (i_in, label, right.0) in
                absurd (none at_next.0 at_next.1 at_next.2)
            | inr last ↦ last
          ] in
          let index : (k : ℕ) → k < length ys → (i : ℕ) × (i < n) × (is_y (spokes i) ≡ true) × (head (spokes i) ≡ at ys k) × (0 < i) × (i ≢ q) = λ k k_in.
          let d = y_dart nodes rest x y xs ys is k k_in in
          let i = R.all d.0 d.1 d.2 in
          let label : is_y (spokes i.0) ≡ true = ap is_y i.2 ∙ d.3 in (
            i.0,
            i.1,
            label,
            ap head i.2 ∙ d.4,
            elim (cases_eq i.0 0) [ inl none_i ↦ absurd (both_ways _ start (ap (λ t. is_y (spokes t)) (sym none_i) ∙ label)) | inr more ↦ omega (arith, more) ],
            λ same. both_ways _ at_Q.2 (ap (λ t. is_y (spokes t)) (sym same) ∙ label),
          ) in
          let one = index 0 (omega (arith, two_y)) in
          let two = index 1 two_y in
          let apart : one.0 ≢ two.0 = λ same.
          let e = is.y_heads.once 0 1 (omega (arith, two_y)) two_y (sym one.3 ∙ ap (λ t. head (spokes t)) same ∙ two.3) in omega (arith, e) in
          let wide : 1 < q = elim (cases_lt one.0 q) [
            | inl low ↦ omega (arith, low, one.4)
            | inr high ↦ elim (cases_lt two.0 q) [
              | inl low ↦ omega (arith, low, two.4)
              | inr also ↦
                  let a = tied one.0 (omega (arith, high, one.5)) one.1 one.2 in
                  let b = tied two.0 (omega (arith, also, two.5)) two.1 two.2 in
                  absurd (apart (omega (arith, a.1, b.1)))
            ]
          ] in
          arcs_of_ring nodes rest x y xs ys is next n spokes ring flat_map q wide (omega (arith, at_Q.1)) start before
          (λ i high i_in. elim (cases_Bool (is_y (spokes i))) [
            | inr first ↦ first
            | inl label ↦ elim (cases_eq i q) [
              | inl here ↦ ap (λ t. is_y (spokes t)) here ∙ at_Q.2
              | inr past ↦ let a = tied i (omega (arith, high, past)) (omega (arith, i_in)) label in absurd (omega (arith, a.1, i_in))
            ]
          ])
          (λ less label.
          let m = n - 1 in
          let not_q : m ≢ q = λ same. both_ways _ at_Q.2 (ap (λ t. is_y (spokes t)) (sym same) ∙ label) in
          (tied m (omega (arith, less, not_q)) (omega (arith, less)) label).2)

      -- one right after it, which changes its name with the one at Q
      turned : suc q < n → is_y (spokes (suc q)) ≡ true → place (suc q) ≡ Q → HasArcs nodes rest x xs ys
      turned q'_in label q'_at =
          let d = spokes q in
          let e = spokes (suc q) in
          let d_is = R.spokes_in q in
          let e_is = R.spokes_in (suc q) in
          let meets : head d ≡ head e = head_Q ∙ ap rim (sym q'_at) ∙ R.places (suc q) in
          let p = pair_ends nodes rest x y xs ys is d e d_is.0 e_is.0 d_is.1 e_is.1 at_Q.2 label meets in
          let s = d / 2 in
          let t = e / 2 in
          let τ = swapped ends s t p.0 p.1 p.2 p.3 in
          let cases = cases_swapped ends s t p.0 p.1 p.2 p.3 in
          let flat' : IsFlat (record { nodes = nodes; ends = ends }) (λ c. τ (next (τ c))) = record {
            is_map = renamed_map ends s t p.0 p.1 p.2 p.3 nodes next flat_map.is_map flat_map.flat;
            flat = renamed_flat ends s t p.0 p.1 p.2 p.3 nodes next flat_map.is_map flat_map.flat;
          } in
          let d_to : τ d ≡ e = omega (arith, cases d, p.4, p.5, p.3) in
          let e_to : τ e ≡ d = omega (arith, cases e, p.4, p.5, p.3) in
          let kept : (i : ℕ) → i < n → i ≢ q → i ≢ suc q → τ (spokes i) ≡ spokes i = λ i i_in not_q not_q'.
          let c = spokes i in
          let c_is = R.spokes_in i in
          let not_d : c ≢ d = λ same. not_q (R.spokes_once i q i_in at_Q.1 same) in
          let not_e : c ≢ e = λ same. not_q' (R.spokes_once i (suc q) i_in q'_in same) in
          let even = dart_at_x nodes rest x y xs ys is c c_is.0 c_is.1 in
          omega (arith, cases c, p.4, p.5, not_d, not_e, even.2) in
          let zero_kept : τ (spokes 0) ≡ spokes 0 = kept 0 R.spokes_some (λ same. omega (arith, same, q_some)) (λ same. omega (arith, same)) in
          arcs_of_ring nodes rest x y xs ys is (λ c. τ (next (τ c))) n (λ i. τ (spokes i)) (ring_renamed ends next x n spokes ring s t p.0 p.1 p.2 p.3) flat' (suc q)
          (omega (arith, q_some)) (omega (arith, q'_in)) (ap is_y zero_kept ∙ start)
          (λ i some low. elim (cases_eq i q) [
            | inl here ↦ ap (λ j. is_y (τ (spokes j))) here ∙ ap is_y d_to ∙ label
            | inr earlier ↦ ap is_y (kept i (omega (arith, low, q'_in)) earlier (λ same. omega (arith, same, low))) ∙ before i some (omega (arith, low, earlier))
          ])
          (λ i high i_in. elim (cases_eq i (suc q)) [
            | inl here ↦ ap (λ j. is_y (τ (spokes j))) here ∙ ap is_y e_to ∙ at_Q.2
            | inr past ↦
                let same = kept i (omega (arith, i_in)) (λ at_q. omega (arith, at_q, high)) past in
                ap is_y same ∙ (elim (cases_Bool (is_y (spokes i))) [
                  | inr first ↦ first
                  | inl also ↦ elim (after i (omega (arith, high)) (omega (arith, i_in)) also) [
                    | inl right ↦ absurd (past right.1)
                    | inr last ↦ absurd (omega (arith, last.1, i_in))
                  ]
                ])
          ])
          (λ less last_label.
          let m = n - 1 in
          let not_q' : m ≢ suc q = λ same. both_ways _ at_Q.2 (ap is_y (sym e_to) ∙ ap (λ j. is_y (τ (spokes j))) (sym same) ∙ last_label) in
          let m_in : m < n = omega (arith, less) in
          let same = kept m m_in (λ at_q. omega (arith, at_q, less)) not_q' in
          ap head same ∙ (elim (after m (omega (arith, less, not_q')) m_in (ap is_y (sym same) ∙ last_label)) [
            | inl right ↦ absurd (not_q' right.1)
            | inr last ↦ last.2
          ]) ∙ ap head (sym zero_kept))

      pub gap_arcs : HasArcs nodes rest x xs ys
      gap_arcs = elim (cases_lt (suc q) n) [
        | inr none ↦ plain (λ low. absurd (omega (arith, low, none)))
        | inl some ↦ elim (cases_Bool (is_y (spokes (suc q)))) [
          | inr first ↦ plain (λ low label. absurd (both_ways _ first label))
          | inl label ↦ elim (cases_eq (place (suc q)) Q) [
            | inr other ↦ plain (λ low also here. other here)
            | inl here ↦ turned some label here
          ]
        ]
      ]

    -- ---- a rim from another spoke on

    module _ (m : ℕ) (m_in : m < n) where
      abbrev a : ℕ
      a = place m

      a_in : a ≤ l
      a_in = place_in m m_in

      rim_reduced : (i : ℕ) → i < l → (j : ℕ) × (j < l) × (rim j ≡ rim (a + i)) × (((a + i < l) × (j ≡ a + i)) ⊎ ((l ≤ a + i) × (j + l ≡ a + i)))
      rim_reduced i i_in = elim (cases_lt (a + i) l) [
        | inl low ↦ (a + i, low, refl, inl (low, refl))
        | inr high ↦
            let j = a + i - l in
            let sum : j + l ≡ a + i = omega (arith, high) in
            let top = a_in in
            (j, omega (arith, top, i_in, high), sym (R.rim_round j) ∙ ap rim sum, inr (high, sum))
      ]

      spoke_reduced : (i : ℕ) → i < n → (j : ℕ) × (j < n) × (spokes j ≡ spokes (m + i)) × (((m + i < n) × (j ≡ m + i)) ⊎ ((n ≤ m + i) × (j + n ≡ m + i)))
      spoke_reduced i i_in = elim (cases_lt (m + i) n) [
        | inl low ↦ (m + i, low, refl, inl (low, refl))
        | inr high ↦
            let j = m + i - n in
            let sum : j + n ≡ m + i = omega (arith, high) in
            (j, omega (arith, m_in, i_in, high), sym (R.spokes_round j) ∙ ap spokes sum, inr (high, sum))
      ]

      pub shifted : IsRim rest ends next x l n (λ j. rim (a + j)) (λ i. spokes (m + i)) (λ i. place (m + i) - a)
      shifted = record {
        some = R.some;
        once = λ i j i_in j_in same.
            let one = rim_reduced i i_in in
            let two = rim_reduced j j_in in
            let e = R.once one.0 two.0 one.1 two.1 (one.2 ∙ same ∙ sym two.2) in
            omega (arith, e, one.3, two.3, i_in, j_in);
        rim_round = λ j. let sum : a + (j + l) ≡ a + j + l = omega arith in ap rim sum ∙ R.rim_round (a + j);
        follow = λ j.
            let sum : suc (a + j) ≡ a + suc j = omega arith in
            let P : ℕ → Type 0 = λ t. Adjacent rest (rim (a + j)) (rim t) in
            subst P sum (R.follow (a + j));
        spokes_some = R.spokes_some;
        spokes_in = λ i. R.spokes_in (m + i);
        spokes_once = λ i j i_in j_in same.
            let one = spoke_reduced i i_in in
            let two = spoke_reduced j j_in in
            let e = R.spokes_once one.0 two.0 one.1 two.1 (one.2 ∙ same ∙ sym two.2) in
            omega (arith, e, one.3, two.3, i_in, j_in);
        spokes_round = λ i. let sum : m + (i + n) ≡ m + i + n = omega arith in ap spokes sum ∙ R.spokes_round (m + i);
        all = λ d d_in d_at.
            let found = R.all d d_in d_at in
            elim (cases_lt found.0 m) [
              | inr high ↦
                  let i = found.0 - m in
                  let sum : m + i ≡ found.0 = omega (arith, high) in
                  (i, omega (arith, found.1), ap spokes sum ∙ found.2)
              | inl low ↦
                  let i = found.0 + n - m in
                  let sum : m + i ≡ found.0 + n = omega (arith, m_in) in
                  (i, omega (arith, low, m_in), ap spokes sum ∙ R.spokes_round found.0 ∙ found.2)
            ];
        turn = λ i.
            let sum : m + suc i ≡ suc (m + i) = omega arith in
            ap (λ t. next (spokes t)) sum ∙ R.turn (m + i);
        places = λ i.
            let low = up m (m + i) (omega arith) in
            let sum : a + (place (m + i) - a) ≡ place (m + i) = omega (arith, low) in
            ap rim sum ∙ R.places (m + i);
        rise = λ i.
            let on = R.rise (m + i) in
            let sum : m + suc i ≡ suc (m + i) = omega arith in
            let e = ap place sum in
            omega (arith, on, e);
        place_round = λ i.
            let on = R.place_round (m + i) in
            let sum : m + (i + n) ≡ m + i + n = omega arith in
            let e = ap place sum in
            let low = up m (m + i) (omega arith) in
            omega (arith, on, e, low);
      }

      pub shifted_base : place (m + 0) - a ≡ 0
      shifted_base = let sum : m + 0 ≡ m = omega arith in let e = ap place sum in omega (arith, e)

      pub shifted_start : is_y (spokes m) ≡ false → is_y (spokes (m + 0)) ≡ false
      shifted_start label = let sum : m + 0 ≡ m = omega arith in ap (λ t. is_y (spokes t)) sum ∙ label

    -- ---- neighbours that alternate

    pub four_minor : (b c d : ℕ) → 0 < b → b < c → c < d → d < l → IsHead xs (rim 0) → IsHead ys (rim b) → IsHead xs (rim c) → IsHead ys (rim d) → HasMinor (web_of_stars rest x y xs ys)
    four_minor b c d b_some b_c c_d d_in x_0 y_b x_c y_d = alternating nodes rest x y xs ys is l rim R.some R.once R.follow rim_l b c d b_some b_c c_d d_in x_0 y_b x_c y_d
