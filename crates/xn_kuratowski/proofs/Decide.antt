-- A contracted segment decides: its rim gives a minor, or the segment comes back in a flat map.
use Rattle.std.proofs.Common.{◌≡◌, ◌≢◌, ℕ, zero, suc, ◌+◌, ◌-◌, ◌<◌, ◌≤◌, ◌⊎◌, inl, inr, Bool, true, false, not, ◌&&◌, eqb, ltb, List, length, sym, ◌∙◌, ap, arith}
use Rattle.std.proofs.lemmas.Bool.{and_from, and_parts, both_ways, cases_Bool, cases_eq, cases_lt, eq-eqb, eqb-true, lt-ltb, ltb-true, not-true, not_from_false}
use Rattle.xn_model.specs.Lists.{at}
use Rattle.xn_model.specs.Map.{IsFlat, reverse_of, tail_of}
use Rattle.xn_genus.proofs.Tests.{some_below, some_below-from, some_below-to}
use Rattle.xn_kuratowski.specs.Minor.{HasMinor}
use Rattle.xn_kuratowski.proofs.Apart.{arcs_come_apart}
use Rattle.xn_kuratowski.proofs.SmallStars.{small_stars}
use Rattle.xn_kuratowski.proofs.Arcs.{x_dart, x_head}
use Rattle.xn_kuratowski.proofs.Gaps.{four_minor, gap_arcs, rim_l, shifted, shifted_base, shifted_start, x_index, x_spot, y_spot}
use Rattle.xn_kuratowski.proofs.Rim.{ContractedWebsDecide, HasArcs, AreStars, IsRim, RimsDecide, is_second, web_of_stars, web_merged}
use Rattle.xn_kuratowski.proofs.RimMinors.{IsHead, three_common}
use Rattle.xn_kuratowski.proofs.Round.{have_rims}
use Rattle.xn_kuratowski.proofs.Smallest.{smallest, smallest_is}

-- ---- heads as a test

abbrev heads_have : List ℕ → ℕ → Bool
heads_have heads v = some_below (length heads) (λ k. eqb (at heads k) v)

heads_to : (heads : List ℕ) (v : ℕ) → heads_have heads v ≡ true → IsHead heads v
heads_to heads v h = let found = some_below-to (length heads) (λ k. eqb (at heads k) v) h in (found.0, found.1, eqb-true _ _ found.2)

heads_from : (heads : List ℕ) (v : ℕ) → IsHead heads v → heads_have heads v ≡ true
heads_from heads v head = some_below-from (length heads) (λ k. eqb (at heads k) v) head.0 head.1 (eq-eqb _ _ head.2)

-- the greatest number below n that passes
greatest : (n : ℕ) (p : ℕ → Bool) (j : ℕ) → j < n → p j ≡ true → (k : ℕ) × (k < n) × (p k ≡ true) × ((i : ℕ) → k < i → i < n → p i ≡ false)
greatest zero p j j_in h = absurd (omega (arith, j_in))
greatest (suc n) p j j_in h = elim (cases_Bool (p n)) [
  | inl here ↦ (n, omega arith, here, λ i more i_in. absurd (omega (arith, more, i_in)))
  | inr not_here ↦
      let j_low : j < n = elim (cases_eq j n) [ inl same ↦ absurd (both_ways _ not_here (ap p (sym same) ∙ h)) | inr other ↦ omega (arith, j_in, other) ] in
      let rest = greatest n p j j_low h in (
        rest.0,
        omega (arith, rest.1),
        rest.2,
        λ i more i_in. elim (cases_eq i n) [ inl same ↦ ap p same ∙ not_here | inr other ↦ rest.3 i more (omega (arith, i_in, other)) ],
      )
]

module _ (nodes : ℕ) (rest : List (ℕ × ℕ)) (x y : ℕ) (xs ys : List ℕ) (is : AreStars nodes rest x y xs ys) (next : ℕ → ℕ)
    (flat_map : IsFlat (record { nodes = nodes; ends = web_merged rest x xs ys }) next) (two_x : 1 < length xs) (two_y : 1 < length ys) where
  abbrev ends : List (ℕ × ℕ)
  ends = web_merged rest x xs ys

  abbrev head : ℕ → ℕ
  head d = tail_of ends (reverse_of d)

  abbrev is_y : ℕ → Bool
  is_y d = is_second rest xs d

  abbrev is_x : ℕ → Bool
  is_x v = heads_have xs v

  abbrev Answer : Type 0
  Answer = HasMinor (web_of_stars rest x y xs ys) ⊎ HasArcs nodes rest x xs ys

  -- ---- a neighbour of y that isn't one of x

  -- on a rim that begins with a neighbour of x, next before that of y
  module _ (l n : ℕ) (rim spokes place : ℕ → ℕ) (R : IsRim rest ends next x l n rim spokes place) (base : place 0 ≡ 0) (start : is_y (spokes 0) ≡ false)
      (P : ℕ) (P_some : 0 < P) (P_in : P < l) (y_P : IsHead ys (rim P)) (none : (j : ℕ) → 0 < j → j ≤ P → is_x (rim j) ≡ false) where
    x_0 : IsHead xs (rim 0)
    x_0 =
        let d = R.spokes_in 0 in
        let found = x_head nodes rest x y xs ys is (spokes 0) d.0 d.1 start in
        (found.0, found.1, found.2 ∙ sym (R.places 0) ∙ ap rim base)

    abbrev beyond : ℕ → Bool
    beyond j = ltb P j && is_x (rim j)

    -- the next neighbour of x
    some_x : (j : ℕ) × (j < l) × (beyond j ≡ true)
    some_x =
        let pick : (k : ℕ) → k < length xs → at xs k ≢ rim 0 → (j : ℕ) × (j < l) × (beyond j ≡ true) = λ k k_in other.
        let found = x_spot nodes rest x y xs ys is next flat_map two_x two_y l n rim spokes place R base k k_in in
        let j = found.0 in
        let on : is_x (rim j) ≡ true = heads_from xs (rim j) (k, k_in, sym found.2) in
        let not_0 : j ≢ 0 = λ same. other (sym found.2 ∙ ap rim same) in
        let high : P < j = elim (cases_lt P j) [
          | inl more ↦ more
          | inr low ↦ absurd (both_ways _ (none j (omega (arith, not_0)) low) on)
        ] in
        (j, found.1, and_from _ _ (lt-ltb P j high) on) in
        elim (cases_eq (at xs 0) (rim 0)) [
          | inr other ↦ pick 0 (omega (arith, two_x)) other
          | inl same ↦ pick 1 two_x (λ also. let e = is.x_heads.once 0 1 (omega (arith, two_x)) two_x (same ∙ sym also) in omega (arith, e))
        ]

    pub single_answer : Answer
    single_answer =
        let Q = smallest l beyond in
        let least = smallest_is l beyond some_x.0 some_x.1 some_x.2 in
        let two : (ltb P Q ≡ true) × (is_x (rim Q) ≡ true) = and_parts _ _ least.0 in
        let P_Q = ltb-true _ _ two.0 in
        let Q_in : Q < l = omega (arith, least.2, some_x.1) in
        let x_Q = heads_to xs (rim Q) two.1 in
        let spot_of = λ (k : ℕ). smallest l (λ j. eqb (rim j) (at ys k)) in
        let spot_is : (k : ℕ) → k < length ys → (spot_of k < l) × (rim (spot_of k) ≡ at ys k) = λ k k_in.
        let found = y_spot nodes rest x y xs ys is next flat_map two_x two_y l n rim spokes place R base k k_in in
        let one = smallest_is l (λ j. eqb (rim j) (at ys k)) found.0 found.1 (eq-eqb _ _ found.2) in
        (omega (arith, one.2, found.1), eqb-true _ _ one.0) in
        elim (cases_Bool (some_below (length ys) (λ k. ltb Q (spot_of k)))) [
          | inl far ↦
              let k = some_below-to (length ys) (λ k. ltb Q (spot_of k)) far in
              let at_k = spot_is k.0 k.1 in
              let Q_k = ltb-true _ _ k.2 in
              inl (four_minor nodes rest x y xs ys is next flat_map two_x two_y l n rim spokes place R base P Q (spot_of k.0) P_some P_Q Q_k at_k.0 x_0 y_P x_Q (k.0, k.1, sym at_k.1))
          | inr near ↦
              inr (gap_arcs nodes rest x y xs ys is next flat_map two_x two_y l n rim spokes place R base start Q (omega (arith, P_Q)) Q_in x_Q
              (λ j some low heads. elim (cases_lt P j) [
                | inr early ↦ both_ways _ (none j some early) (heads_from xs (rim j) heads)
                | inl late ↦ both_ways _ (least.1 j low) (and_from _ _ (lt-ltb P j late) (heads_from xs (rim j) heads))
              ])
              (λ k k_in. (
                spot_of k,
                elim (cases_lt Q (spot_of k)) [
                  | inr low ↦ low
                  | inl high ↦ absurd (both_ways _ near (some_below-from (length ys) (λ k. ltb Q (spot_of k)) k k_in (lt-ltb _ _ high)))
                ],
                (spot_is k k_in).1,
              )))
        ]

  -- on any rim that begins with a neighbour of x
  module _ (l n : ℕ) (rim spokes place : ℕ → ℕ) (R : IsRim rest ends next x l n rim spokes place) (base : place 0 ≡ 0) (start : is_y (spokes 0) ≡ false) where
    x_first : IsHead xs (rim 0)
    x_first =
        let d = R.spokes_in 0 in
        let found = x_head nodes rest x y xs ys is (spokes 0) d.0 d.1 start in
        (found.0, found.1, found.2 ∙ sym (R.places 0) ∙ ap rim base)

    -- an index with a place at each neighbour of x
    index_at : (j : ℕ) → j < l → IsHead xs (rim j) → (i : ℕ) × (i < n) × (is_y (spokes i) ≡ false) × (place i ≡ j)
    index_at j j_in heads = elim (cases_eq j 0) [
      | inl none ↦ (0, R.spokes_some, start, base ∙ sym none)
      | inr some ↦ x_index nodes rest x y xs ys is next flat_map two_x two_y l n rim spokes place R base j (omega (arith, some)) j_in heads
    ]

    pub alone_answer : (k : ℕ) → k < length ys → is_x (at ys k) ≡ false → Answer
    alone_answer k k_in only =
        let b = y_spot nodes rest x y xs ys is next flat_map two_x two_y l n rim spokes place R base k k_in in
        let at_b : is_x (rim b.0) ≡ false = ap is_x b.2 ∙ only in
        let b_some : 0 < b.0 = elim (cases_eq b.0 0) [
          | inl none ↦ absurd (both_ways _ at_b (ap (λ j. is_x (rim j)) none ∙ heads_from xs (rim 0) x_first))
          | inr more ↦ omega (arith, more)
        ] in
        let last = greatest b.0 (λ j. is_x (rim j)) 0 b_some (heads_from xs (rim 0) x_first) in
        let i = index_at last.0 (omega (arith, last.1, b.1)) (heads_to xs (rim last.0) last.2) in
        let a_is = i.3 in
        let P = b.0 - last.0 in
        let sum : place i.0 + P ≡ b.0 = omega (arith, a_is, last.1) in
        single_answer l n (λ j. rim (place i.0 + j)) (λ t. spokes (i.0 + t)) (λ t. place (i.0 + t) - place i.0)
        (shifted nodes rest x y xs ys is next flat_map two_x two_y l n rim spokes place R base i.0 i.1)
        (shifted_base nodes rest x y xs ys is next flat_map two_x two_y l n rim spokes place R base i.0 i.1)
        (shifted_start nodes rest x y xs ys is next flat_map two_x two_y l n rim spokes place R base i.0 i.1 i.2) P (omega (arith, last.1)) (omega (arith, b.1))
        (k, k_in, sym (ap rim sum ∙ b.2))
        (λ j some low. elim (cases_eq j P) [
          | inl here ↦ ap (λ t. is_x (rim t)) (let e : place i.0 + j ≡ b.0 = omega (arith, here, sum) in e) ∙ at_b
          | inr other ↦ last.3 (place i.0 + j) (omega (arith, a_is, some)) (omega (arith, sum, low, other))
        ])

    -- ---- each neighbour of y is one of x

    module _ (common : (k : ℕ) → k < length ys → IsHead xs (at ys k)) where
      -- three of them
      pub three_answer : 2 < length ys → rim 0 ≡ at ys 0 → Answer
      three_answer more begins =
          let one = y_spot nodes rest x y xs ys is next flat_map two_x two_y l n rim spokes place R base 1 two_y in
          let two = y_spot nodes rest x y xs ys is next flat_map two_x two_y l n rim spokes place R base 2 more in
          let x_at : (k j : ℕ) → k < length ys → rim j ≡ at ys k → IsHead xs (rim j) = λ k j k_in at_k. let h = common k k_in in (h.0, h.1, h.2 ∙ sym at_k) in
          let apart : (a b : ℕ) → a < length ys → b < length ys → a ≢ b → at ys a ≢ at ys b = λ a b a_in b_in other same. other (is.y_heads.once a b a_in b_in same) in
          let not_0 : (k j : ℕ) → k < length ys → 0 ≢ k → rim j ≡ at ys k → j ≢ 0 = λ k j k_in other at_k same.
          apart 0 k (omega (arith, two_y)) k_in other (sym begins ∙ ap rim (sym same) ∙ at_k) in
          let one_some = not_0 1 one.0 two_y (λ e. omega (arith, e)) one.2 in
          let two_some = not_0 2 two.0 more (λ e. omega (arith, e)) two.2 in
          let differ : one.0 ≢ two.0 = λ same. apart 1 2 two_y more (λ e. omega (arith, e)) (sym one.2 ∙ ap rim same ∙ two.2) in
          let minor : (a b : ℕ) → 0 < a → a < b → b < l → (p q : ℕ) → p < length ys → q < length ys → rim a ≡ at ys p → rim b ≡ at ys q →
          HasMinor (web_of_stars rest x y xs ys) = λ a b a_some a_b b_in p q p_in q_in at_p at_q.
          three_common nodes rest x y xs ys is l rim R.some R.once R.follow (rim_l nodes rest x y xs ys is next flat_map two_x two_y l n rim spokes place R base) a b a_some a_b b_in
          (x_at 0 0 (omega (arith, two_y)) begins) (0, omega (arith, two_y), sym begins) (x_at p a p_in at_p) (p, p_in, sym at_p) (x_at q b q_in at_q) (q, q_in, sym at_q) in
          inl (elim (cases_lt one.0 two.0) [
            | inl less ↦ minor one.0 two.0 (omega (arith, one_some)) less two.1 1 2 two_y more one.2 two.2
            | inr rest_case ↦ minor two.0 one.0 (omega (arith, two_some)) (omega (arith, rest_case, differ)) one.1 2 1 more two_y two.2 one.2
          ])

      -- two of them
      pub two_answer : length ys ≡ 2 → rim 0 ≡ at ys 0 → Answer
      two_answer pair begins =
          let found = y_spot nodes rest x y xs ys is next flat_map two_x two_y l n rim spokes place R base 1 two_y in
          let P = found.0 in
          let P_some : 0 < P = elim (cases_eq P 0) [
            | inr more ↦ omega (arith, more)
            | inl none ↦ let e = is.y_heads.once 0 1 (omega (arith, two_y)) two_y (sym begins ∙ ap rim (sym none) ∙ found.2) in absurd (omega (arith, e))
          ] in
          let x_P : IsHead xs (rim P) = let h = common 1 two_y in (h.0, h.1, h.2 ∙ sym found.2) in
          let inner = λ (j : ℕ). ltb 0 j && is_x (rim j) in
          let outer = λ (j : ℕ). ltb P j && is_x (rim j) in
          elim (cases_Bool (some_below P inner)) [
            | inr none ↦
                inr (gap_arcs nodes rest x y xs ys is next flat_map two_x two_y l n rim spokes place R base start P P_some found.1 x_P
                (λ j some low heads. both_ways _ none (some_below-from P inner j low (and_from _ _ (lt-ltb 0 j some) (heads_from xs (rim j) heads))))
                (λ k k_in. elim (cases_eq k 0) [
                  | inl first ↦ (0, omega arith, begins ∙ ap (at ys) (sym first))
                  | inr second ↦ let k_is : k ≡ 1 = omega (arith, second, k_in, pair) in (P, omega arith, found.2 ∙ ap (at ys) (sym k_is))
                ]))
            | inl some_inner ↦
                let c = some_below-to P inner some_inner in
                let c_is : (ltb 0 c.0 ≡ true) × (is_x (rim c.0) ≡ true) = and_parts _ _ c.2 in
                let c_some = ltb-true _ _ c_is.0 in
                elim (cases_Bool (some_below l outer)) [
                  | inr none ↦
                      let i = index_at P found.1 x_P in
                      let a_is = i.3 in
                      let Q = l - P in
                      let whole : place i.0 + Q ≡ l = omega (arith, a_is, found.1) in
                      let meets : rim (place i.0 + Q) ≡ rim 0 = ap rim whole ∙ rim_l nodes rest x y xs ys is next flat_map two_x two_y l n rim spokes place R base in
                      inr (gap_arcs nodes rest x y xs ys is next flat_map two_x two_y l n (λ j. rim (place i.0 + j)) (λ t. spokes (i.0 + t))
                      (λ t. place (i.0 + t) - place i.0) (shifted nodes rest x y xs ys is next flat_map two_x two_y l n rim spokes place R base i.0 i.1)
                      (shifted_base nodes rest x y xs ys is next flat_map two_x two_y l n rim spokes place R base i.0 i.1)
                      (shifted_start nodes rest x y xs ys is next flat_map two_x two_y l n rim spokes place R base i.0 i.1 i.2) Q (omega (arith, found.1))
                      (omega (arith, P_some))
                      (x_first.0, x_first.1, x_first.2 ∙ sym meets)
                      (λ j some low heads. both_ways _ none (some_below-from l outer (place i.0 + j) (omega (arith, whole, low))
                      (and_from _ _ (lt-ltb P (place i.0 + j) (omega (arith, a_is, some))) (heads_from xs (rim (place i.0 + j)) heads))))
                      (λ k k_in. elim (cases_eq k 0) [
                        | inl first ↦ (Q, omega arith, meets ∙ begins ∙ ap (at ys) (sym first))
                        | inr second ↦
                            let k_is : k ≡ 1 = omega (arith, second, k_in, pair) in
                            let z : place i.0 + 0 ≡ P = omega (arith, a_is) in
                            (0, omega arith, ap rim z ∙ found.2 ∙ ap (at ys) (sym k_is))
                      ]))
                  | inl some_outer ↦
                      let c' = some_below-to l outer some_outer in
                      let c'_is : (ltb P c'.0 ≡ true) × (is_x (rim c'.0) ≡ true) = and_parts _ _ c'.2 in
                      let c'_high = ltb-true _ _ c'_is.0 in
                      let x_c = heads_to xs (rim c.0) c_is.1 in
                      let i = index_at c.0 (omega (arith, c.1, found.1)) x_c in
                      let a_is = i.3 in
                      let one : place i.0 + (P - c.0) ≡ P = omega (arith, a_is, c.1) in
                      let two : place i.0 + (c'.0 - c.0) ≡ c'.0 = omega (arith, a_is, c.1, c'_high) in
                      let three : place i.0 + (l - c.0) ≡ l = omega (arith, a_is, c.1, found.1) in
                      let none : place i.0 + 0 ≡ c.0 = omega (arith, a_is) in
                      let x_c' = heads_to xs (rim c'.0) c'_is.1 in
                      inl (four_minor nodes rest x y xs ys is next flat_map two_x two_y l n (λ j. rim (place i.0 + j)) (λ t. spokes (i.0 + t))
                      (λ t. place (i.0 + t) - place i.0) (shifted nodes rest x y xs ys is next flat_map two_x two_y l n rim spokes place R base i.0 i.1)
                      (shifted_base nodes rest x y xs ys is next flat_map two_x two_y l n rim spokes place R base i.0 i.1) (P - c.0) (c'.0 - c.0) (l - c.0)
                      (omega (arith, c.1)) (omega (arith, c.1, c'_high)) (omega (arith, c.1, c'_high, c'.1))
                      (omega (arith, c_some, c'.1))
                      (x_c.0, x_c.1, x_c.2 ∙ ap rim (sym none)) (1, two_y, sym found.2 ∙ ap rim (sym one)) (x_c'.0, x_c'.1, x_c'.2 ∙ ap rim (sym two))
                      (0, omega (arith, two_y), sym begins ∙ sym (rim_l nodes rest x y xs ys is next flat_map two_x two_y l n rim spokes place R base) ∙ ap rim (sym three)))
                ]
          ]

  -- ---- all together

  pub answer : (l n : ℕ) (rim spokes place : ℕ → ℕ) → IsRim rest ends next x l n rim spokes place → place 0 ≡ 0 → Answer
  answer l n rim spokes place R base = elim (cases_Bool (some_below (length ys) (λ k. not (is_x (at ys k))))) [
    | inl some ↦
        let k = some_below-to (length ys) (λ k. not (is_x (at ys k))) some in
        let d = x_dart nodes rest x y xs ys is 0 (omega (arith, two_x)) in
        let i = R.all d.0 d.1 d.2 in
        let label : is_y (spokes i.0) ≡ false = ap is_y i.2 ∙ d.3 in
        alone_answer l n (λ j. rim (place i.0 + j)) (λ t. spokes (i.0 + t)) (λ t. place (i.0 + t) - place i.0)
        (shifted nodes rest x y xs ys is next flat_map two_x two_y l n rim spokes place R base i.0 i.1)
        (shifted_base nodes rest x y xs ys is next flat_map two_x two_y l n rim spokes place R base i.0 i.1)
        (shifted_start nodes rest x y xs ys is next flat_map two_x two_y l n rim spokes place R base i.0 i.1 label) k.0 k.1 (not-true _ k.2)
    | inr none ↦
        let common : (k : ℕ) → k < length ys → IsHead xs (at ys k) = λ k k_in. heads_to xs (at ys k) (elim (cases_Bool (is_x (at ys k))) [
          | inl on ↦ on
          | inr off ↦ absurd (both_ways _ none (some_below-from (length ys) (λ j. not (is_x (at ys j))) k k_in (not_from_false _ off)))
        ]) in
        let first = common 0 (omega (arith, two_y)) in
        let d = x_dart nodes rest x y xs ys is first.0 first.1 in
        let i = R.all d.0 d.1 d.2 in
        let label : is_y (spokes i.0) ≡ false = ap is_y i.2 ∙ d.3 in
        let z : place i.0 + 0 ≡ place i.0 = omega arith in
        let begins : rim (place i.0 + 0) ≡ at ys 0 = ap rim z ∙ R.places i.0 ∙ ap head i.2 ∙ d.4 ∙ first.2 in
        let R' = shifted nodes rest x y xs ys is next flat_map two_x two_y l n rim spokes place R base i.0 i.1 in
        let base' = shifted_base nodes rest x y xs ys is next flat_map two_x two_y l n rim spokes place R base i.0 i.1 in
        let start' = shifted_start nodes rest x y xs ys is next flat_map two_x two_y l n rim spokes place R base i.0 i.1 label in
        elim (cases_lt 2 (length ys)) [
          | inl more ↦ three_answer l n (λ j. rim (place i.0 + j)) (λ t. spokes (i.0 + t)) (λ t. place (i.0 + t) - place i.0) R' base' start' common more begins
          | inr few ↦ two_answer l n (λ j. rim (place i.0 + j)) (λ t. spokes (i.0 + t)) (λ t. place (i.0 + t) - place i.0) R' base' start' common (omega (arith, few, two_y)) begins
        ]
  ]

pub rims_decide : RimsDecide
rims_decide nodes rest x y xs ys next l n rim spokes place is flat_map R base two_x two_y = answer nodes rest x y xs ys is next flat_map two_x two_y l n rim spokes place R base

pub contracted_webs_decide : ContractedWebsDecide
contracted_webs_decide nodes rest x y xs ys is has = elim (cases_lt 1 (length xs)) [
  | inr few ↦ inl (small_stars nodes rest x y xs ys is (inl (omega (arith, few))) has)
  | inl two_x ↦ elim (cases_lt 1 (length ys)) [
    | inr few ↦ inl (small_stars nodes rest x y xs ys is (inr (omega (arith, few))) has)
    | inl two_y ↦
        let flat_map : IsFlat (record { nodes = nodes; ends = web_merged rest x xs ys }) has.next = record { is_map = has.is_map; flat = has.flat } in
        let d = x_dart nodes rest x y xs ys is 0 (omega (arith, two_x)) in
        let R = have_rims nodes rest x y xs ys has.next is flat_map two_y d.0 d.1 d.2 in
        elim (rims_decide nodes rest x y xs ys has.next R.0 R.1 R.2 R.3 R.4 is flat_map R.5 R.7 two_x two_y) [
          | inl minor ↦ inr minor
          | inr arcs ↦ inl (arcs_come_apart nodes rest x y xs ys is arcs)
        ]
  ]
]
