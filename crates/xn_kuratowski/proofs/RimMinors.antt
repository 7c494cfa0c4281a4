-- A rim on which neighbours of the two nodes alternate, or three are neighbours of both, gives a minor.
use Rattle.std.proofs.Common.{◌≡◌, ◌≢◌, ℕ, zero, suc, ◌+◌, ◌-◌, ◌<◌, ◌≤◌, ◌⊎◌, inl, inr, Bool, cond, eqb, ltb, List, [], ◌∷◌, length, refl, sym, ◌∙◌, ap, subst, arith}
use Rattle.std.proofs.lemmas.Bool.{cases_Bool, cases_eq, cases_lt, cond-true, cond-false, eq-eqb, eqb-true, ne_eqb, lt-ltb, le-ltb}
use Rattle.std.proofs.lemmas.List.Elements.{All-cons, All-nil}
use Rattle.xn_model.specs.Lists.{at}
use Rattle.xn_model.specs.Map.{Joined}
use Rattle.xn_model.proofs.ComponentWalks.{joined_sym, joined_trans}
use Rattle.xn_genus.proofs.Tests.{some_below, some_below-from, some_below-to}
use Rattle.xn_fewer.proofs.Lists.{lone_ends}
use Rattle.xn_fewer.proofs.Walks.{joined_same}
use Rattle.xn_kuratowski.specs.Minor.{Adjoin, HasMinor, inside}
use Rattle.xn_kuratowski.proofs.Minors.{joined_inside}
use Rattle.xn_kuratowski.proofs.Rim.{Adjacent, AreStars, web_of_stars}
use Rattle.xn_kuratowski.proofs.Smallest.{smallest, smallest_is}
use Rattle.xn_kuratowski.proofs.Stars.{at_first, at_more, at_rest, at_second, size_of_stars}

-- v is one of the heads
abbrev pub IsHead : List ℕ → ℕ → Type 0
IsHead heads v = (k : ℕ) × (k < length heads) × (at heads k ≡ v)

module _ (nodes : ℕ) (rest : List (ℕ × ℕ)) (x y : ℕ) (xs ys : List ℕ) (is : AreStars nodes rest x y xs ys) (l : ℕ) (rim : ℕ → ℕ) (some : 0 < l)
    (once : (i j : ℕ) → i < l → j < l → rim i ≡ rim j → i ≡ j) (follow : (j : ℕ) → Adjacent rest (rim j) (rim (suc j))) (round : rim l ≡ rim 0) where
  abbrev web : List (ℕ × ℕ)
  web = web_of_stars rest x y xs ys

  size : length web ≡ length rest + (length xs + (length ys + 1))
  size = size_of_stars nodes rest x y xs ys is

  -- the rim doesn't meet x and y
  rim_not : (j : ℕ) → (rim j ≢ x) × (rim j ≢ y)
  rim_not j =
      let s = follow j in
      let no_x = lone_ends rest x is.x_lone s.0 s.1 in
      let no_y = lone_ends rest y is.y_lone s.0 s.1 in
      elim s.2 [
        | inl e ↦ (λ same. no_x.0 (ap (λ p. p.0) e ∙ same), λ same. no_y.0 (ap (λ p. p.0) e ∙ same))
        | inr e ↦ (λ same. no_x.1 (ap (λ p. p.1) e ∙ same), λ same. no_y.1 (ap (λ p. p.1) e ∙ same))
      ]

  module _ (cx cy out : ℕ) (cell : ℕ → ℕ) (apart : cx ≢ cy) (cell_not : (j : ℕ) → (cell j ≢ cx) × (cell j ≢ cy)) where
    abbrev on_rim : ℕ → Bool
    on_rim w = some_below l (λ j. eqb (rim j) w)

    abbrev pub class : ℕ → ℕ
    class w = cond (eqb w x) cx (cond (eqb w y) cy (cond (on_rim w) (cell (smallest l (λ j. eqb (rim j) w))) out))

    pub class_x : class x ≡ cx
    class_x = cond-true _ _ _ (eq-eqb x x refl)

    pub class_y : class y ≡ cy
    class_y = cond-false _ _ _ (ne_eqb y x (λ same. is.two_ends (sym same))) ∙ cond-true _ _ _ (eq-eqb y y refl)

    class_other : (w : ℕ) → w ≢ x → w ≢ y → class w ≡ cond (on_rim w) (cell (smallest l (λ j. eqb (rim j) w))) out
    class_other w not_x not_y = cond-false _ _ _ (ne_eqb w x not_x) ∙ cond-false _ _ _ (ne_eqb w y not_y)

    pub class_rim : (j : ℕ) → j < l → class (rim j) ≡ cell j
    class_rim j j_in =
        let off = rim_not j in
        let found = smallest_is l (λ i. eqb (rim i) (rim j)) j j_in (eq-eqb _ _ refl) in
        let k = smallest l (λ i. eqb (rim i) (rim j)) in
        let same : k ≡ j = once k j (omega (arith, found.2, j_in)) j_in (eqb-true _ _ found.0) in
        class_other (rim j) off.0 off.1 ∙ cond-true _ _ _ (some_below-from l (λ i. eqb (rim i) (rim j)) j j_in (eq-eqb _ _ refl)) ∙ ap cell same

    -- what is in a class
    in_class : (i w : ℕ) → class w ≡ i → i ≢ out → ((w ≡ x) × (i ≡ cx)) ⊎ (((w ≡ y) × (i ≡ cy)) ⊎ ((j : ℕ) × (j < l) × (rim j ≡ w) × (cell j ≡ i)))
    in_class i w at_i inner = elim (cases_eq w x) [
      | inl here ↦ inl (here, sym at_i ∙ ap class here ∙ class_x)
      | inr not_x ↦ elim (cases_eq w y) [
        | inl here ↦ inr (inl (here, sym at_i ∙ ap class here ∙ class_y))
        | inr not_y ↦ elim (cases_Bool (on_rim w)) [
          | inl found ↦
              let j = some_below-to l (λ k. eqb (rim k) w) found in
              let meets : rim j.0 ≡ w = eqb-true _ _ j.2 in
              inr (inr (j.0, j.1, meets, sym (class_rim j.0 j.1) ∙ ap class meets ∙ at_i))
          | inr none ↦ absurd (inner (sym at_i ∙ class_other w not_x not_y ∙ cond-false _ _ _ none))
        ]
      ]
    ]

    -- a segment of the rim within a class
    step_inside : (i j : ℕ) → suc j < l → cell j ≡ i → cell (suc j) ≡ i → Joined (inside class i web) (rim j) (rim (suc j))
    step_inside i j low one two =
        let s = follow j in
        let e = at_rest rest x y xs ys ((x, y) ∷ []) s.0 s.1 in
        let s_in : s.0 < length web = omega (arith, s.1, size) in
        let first : class (rim j) ≡ i = class_rim j (omega (arith, low)) ∙ one in
        let second : class (rim (suc j)) ≡ i = class_rim (suc j) low ∙ two in
        elim s.2 [
          | inl f ↦
              let P : ℕ × ℕ → Type 0 = λ p. Joined (inside class i web) p.0 p.1 in
              subst P (e ∙ f) (joined_inside web class i s.0 s_in (ap (λ p. class p.0) (e ∙ f) ∙ first) (ap (λ p. class p.1) (e ∙ f) ∙ second))
          | inr f ↦
              let P : ℕ × ℕ → Type 0 = λ p. Joined (inside class i web) p.1 p.0 in
              subst P (e ∙ f) (joined_sym (inside class i web) _ _ (joined_inside web class i s.0 s_in (ap (λ p. class p.0) (e ∙ f) ∙ second) (ap (λ p. class p.1) (e ∙ f) ∙ first)))
        ]

    along : (i a k : ℕ) → a + k < l → ((j : ℕ) → a ≤ j → j ≤ a + k → cell j ≡ i) → Joined (inside class i web) (rim a) (rim (a + k))
    along i a zero low all = joined_same (inside class i web) (rim a) (rim (a + 0)) (ap rim (let z : a ≡ a + 0 = omega arith in z))
    along i a (suc k) low all =
        let before = along i a k (omega (arith, low)) (λ j a_low j_low. all j a_low (omega (arith, j_low))) in
        let sum : suc (a + k) ≡ a + suc k = omega arith in
        let on = step_inside i (a + k) (omega (arith, low)) (all (a + k) (omega arith) (omega arith)) (all (suc (a + k)) (omega arith) (omega arith)) in
        let P : ℕ → Type 0 = λ t. Joined (inside class i web) (rim (a + k)) (rim t) in
        joined_trans (inside class i web) (rim a) (rim (a + k)) (rim (a + suc k)) before (subst P sum on)

    -- where the cells of a class are side by side, it is joined
    pub class_joined : ((i a j b : ℕ) → a ≤ j → j ≤ b → b < l → cell a ≡ i → cell b ≡ i → cell j ≡ i) → (i u v : ℕ) → i ≢ out → class u ≡ i → class v ≡ i → Joined (inside class i web) u v
    class_joined convex i u v inner at_u at_v =
        let web_i = inside class i web in
        let one = in_class i u at_u inner in
        let two = in_class i v at_v inner in
        elim one [
          | inl u_x ↦ elim two [
            | inl v_x ↦ joined_same web_i u v (u_x.0 ∙ sym v_x.0)
            | inr (inl v_y) ↦ absurd (apart (sym u_x.1 ∙ v_y.1))
            | inr (inr v_r) ↦ absurd ((cell_not v_r.0).0 (v_r.3 ∙ u_x.1))
          ]
          | inr (inl u_y) ↦ elim two [
            | inl v_x ↦ absurd (apart (sym v_x.1 ∙ u_y.1))
            | inr (inl v_y) ↦ joined_same web_i u v (u_y.0 ∙ sym v_y.0)
            | inr (inr v_r) ↦ absurd ((cell_not v_r.0).1 (v_r.3 ∙ u_y.1))
          ]
          | inr (inr u_r) ↦ elim two [
            | inl v_x ↦ absurd ((cell_not u_r.0).0 (u_r.3 ∙ v_x.1))
            | inr (inl v_y) ↦ absurd ((cell_not u_r.0).1 (u_r.3 ∙ v_y.1))
            | inr (inr v_r) ↦
                let P : ℕ → Type 0 = λ t. Joined web_i t v in
                let Q : ℕ → Type 0 = λ t. Joined web_i (rim u_r.0) t in
                subst P u_r.2 (subst Q v_r.2 (between u_r.0 v_r.0 u_r.1 v_r.1 u_r.3 v_r.3))
          ]
        ]
      where
        forward : (a b : ℕ) → a ≤ b → b < l → cell a ≡ i → cell b ≡ i → Joined (inside class i web) (rim a) (rim b)
        forward a b low b_in at_a at_b =
            let sum : a + (b - a) ≡ b = omega (arith, low) in
            let P : ℕ → Type 0 = λ t. Joined (inside class i web) (rim a) (rim t) in
            subst P sum (along i a (b - a) (omega (arith, sum, b_in)) (λ j a_low j_low. convex i a j b a_low (omega (arith, j_low, sum)) b_in at_a at_b))

        between : (a b : ℕ) → a < l → b < l → cell a ≡ i → cell b ≡ i → Joined (inside class i web) (rim a) (rim b)
        between a b a_in b_in at_a at_b = elim (cases_lt a b) [
          | inl less ↦ forward a b (omega (arith, less)) b_in at_a at_b
          | inr more ↦ joined_sym (inside class i web) (rim b) (rim a) (forward b a more a_in at_b at_a)
        ]

    -- ---- segments between classes

    pub x_to_y : Adjoin web class cx cy
    x_to_y =
        let t = length rest + (length xs + (length ys + 0)) in
        let e = at_more rest x y xs ys ((x, y) ∷ []) 0 in
        (t, omega (arith, size), inl (ap (λ p. class p.0) e ∙ class_x, ap (λ p. class p.1) e ∙ class_y))

    pub x_to : (i j : ℕ) → j < l → cell j ≡ i → IsHead xs (rim j) → Adjoin web class cx i
    x_to i j j_in at_i head =
        let e = at_first rest x y xs ys ((x, y) ∷ []) head.0 head.1 in
        (length rest + head.0, omega (arith, head.1, size), inl (ap (λ p. class p.0) e ∙ class_x, ap (λ p. class p.1) e ∙ ap class head.2 ∙ class_rim j j_in ∙ at_i))

    pub y_to : (i j : ℕ) → j < l → cell j ≡ i → IsHead ys (rim j) → Adjoin web class cy i
    y_to i j j_in at_i head =
        let e = at_second rest x y xs ys ((x, y) ∷ []) head.0 head.1 in
        (length rest + (length xs + head.0), omega (arith, head.1, size), inl (ap (λ p. class p.0) e ∙ class_y, ap (λ p. class p.1) e ∙ ap class head.2 ∙ class_rim j j_in ∙ at_i))

    pub adjoin_turned : (i k : ℕ) → Adjoin web class i k → Adjoin web class k i
    adjoin_turned i k a = (a.0, a.1, elim a.2 [ inl one ↦ inr one | inr two ↦ inl two ])

    neighbours_adjoin : (i k u v : ℕ) → Adjacent rest u v → class u ≡ i → class v ≡ k → Adjoin web class i k
    neighbours_adjoin i k u v s at_u at_v =
        let e = at_rest rest x y xs ys ((x, y) ∷ []) s.0 s.1 in (
          s.0,
          omega (arith, s.1, size),
          elim s.2 [
            | inl f ↦ inl (ap (λ p. class p.0) (e ∙ f) ∙ at_u, ap (λ p. class p.1) (e ∙ f) ∙ at_v)
            | inr f ↦ inr (ap (λ p. class p.0) (e ∙ f) ∙ at_v, ap (λ p. class p.1) (e ∙ f) ∙ at_u)
          ],
        )

    -- at the end of a cell
    pub next_cell : (i k j : ℕ) → suc j < l → cell j ≡ i → cell (suc j) ≡ k → Adjoin web class i k
    next_cell i k j low one two = neighbours_adjoin i k (rim j) (rim (suc j)) (follow j) (class_rim j (omega (arith, low)) ∙ one) (class_rim (suc j) low ∙ two)

    pub round_cell : (i k j : ℕ) → suc j ≡ l → cell j ≡ i → cell 0 ≡ k → Adjoin web class i k
    round_cell i k j last one two =
        let P : ℕ → Type 0 = λ t. Adjacent rest (rim j) t in
        neighbours_adjoin i k (rim j) (rim 0) (subst P (ap rim last ∙ round) (follow j)) (class_rim j (omega (arith, last)) ∙ one) (class_rim 0 some ∙ two)

  -- ---- neighbours of x, y, x, y

  module _ (a b c : ℕ) (a_some : 0 < a) (a_b : a < b) (b_c : b < c) (c_in : c < l) (x_0 : IsHead xs (rim 0)) (y_a : IsHead ys (rim a)) (x_b : IsHead xs (rim b)) (y_c : IsHead ys (rim c)) where
    abbrev four : ℕ → ℕ
    four j = cond (ltb j a) 4 (cond (ltb j b) 1 (cond (ltb j c) 5 2))

    cases_four : (j : ℕ) → ((j < a) × (four j ≡ 4)) ⊎ (((a ≤ j) × (j < b) × (four j ≡ 1)) ⊎ (((b ≤ j) × (j < c) × (four j ≡ 5)) ⊎ ((c ≤ j) × (four j ≡ 2))))
    cases_four j = elim (cases_lt j a) [
      | inl one ↦ inl (one, cond-true _ _ _ (lt-ltb j a one))
      | inr not_one ↦ elim (cases_lt j b) [
        | inl two ↦ inr (inl (not_one, two, cond-false _ _ _ (le-ltb j a not_one) ∙ cond-true _ _ _ (lt-ltb j b two)))
        | inr not_two ↦ elim (cases_lt j c) [
          | inl three ↦ inr (inr (inl (not_two, three, cond-false _ _ _ (le-ltb j a not_one) ∙ cond-false _ _ _ (le-ltb j b not_two) ∙ cond-true _ _ _ (lt-ltb j c three))))
          | inr not_three ↦ inr (inr (inr (not_three, cond-false _ _ _ (le-ltb j a not_one) ∙ cond-false _ _ _ (le-ltb j b not_two) ∙ cond-false _ _ _ (le-ltb j c not_three))))
        ]
      ]
    ]

    four_not : (j : ℕ) → (four j ≢ 0) × (four j ≢ 3)
    four_not j = (λ same. omega (arith, same, cases_four j), λ same. omega (arith, same, cases_four j))

    differ : ◌≢◌ {A = ℕ} 0 3
    differ same = omega (arith, same)

    four_convex : (i a' j b' : ℕ) → a' ≤ j → j ≤ b' → b' < l → four a' ≡ i → four b' ≡ i → four j ≡ i
    four_convex i a' j b' low high b_in one two = omega (arith, low, high, one, two, cases_four a', cases_four j, cases_four b', a_b, b_c)

    abbrev cls : ℕ → ℕ
    cls = class 0 3 9 four differ four_not

    pub alternating : HasMinor web
    alternating =
        let A : ℕ × ℕ → Type 0 = λ p. Adjoin web cls p.0 p.1 in
        let at_0 : four 0 ≡ 4 = omega (arith, cases_four 0, a_some) in
        let at_a : four a ≡ 1 = omega (arith, cases_four a, a_b) in
        let at_b : four b ≡ 5 = omega (arith, cases_four b, a_b, b_c) in
        let at_c : four c ≡ 2 = omega (arith, cases_four c, a_b, b_c) in
        let before_a : four (a - 1) ≡ 4 = omega (arith, cases_four (a - 1), a_some) in
        let before_b : four (b - 1) ≡ 1 = omega (arith, cases_four (b - 1), a_b) in
        let before_c : four (c - 1) ≡ 5 = omega (arith, cases_four (c - 1), a_b, b_c) in
        let before_l : four (l - 1) ≡ 2 = omega (arith, cases_four (l - 1), a_b, b_c, c_in) in
        let a_is : suc (a - 1) ≡ a = omega (arith, a_some) in
        let b_is : suc (b - 1) ≡ b = omega (arith, a_b) in
        let c_is : suc (c - 1) ≡ c = omega (arith, b_c) in
        inr (
          cls,
          record {
            joined = λ i u v i_in at_u at_v. class_joined 0 3 9 four differ four_not four_convex i u v (λ same. omega (arith, same, i_in)) at_u at_v;
            adjoin =
                All-cons A (0, 3) ((0, 4) ∷ (0, 5) ∷ (1, 3) ∷ (1, 4) ∷ (1, 5) ∷ (2, 3) ∷ (2, 4) ∷ (2, 5) ∷ []) (x_to_y 0 3 9 four differ four_not)
                (All-cons A (0, 4) ((0, 5) ∷ (1, 3) ∷ (1, 4) ∷ (1, 5) ∷ (2, 3) ∷ (2, 4) ∷ (2, 5) ∷ []) (x_to 0 3 9 four differ four_not 4 0 some at_0 x_0)
                (All-cons A (0, 5) ((1, 3) ∷ (1, 4) ∷ (1, 5) ∷ (2, 3) ∷ (2, 4) ∷ (2, 5) ∷ []) (x_to 0 3 9 four differ four_not 5 b (omega (arith, b_c, c_in)) at_b x_b)
                (All-cons A (1, 3) ((1, 4) ∷ (1, 5) ∷ (2, 3) ∷ (2, 4) ∷ (2, 5) ∷ [])
                (adjoin_turned 0 3 9 four differ four_not 3 1 (y_to 0 3 9 four differ four_not 1 a (omega (arith, a_b, b_c, c_in)) at_a y_a))
                (All-cons A (1, 4) ((1, 5) ∷ (2, 3) ∷ (2, 4) ∷ (2, 5) ∷ []) (adjoin_turned 0 3 9 four differ four_not 4 1
                (next_cell 0 3 9 four differ four_not 4 1 (a - 1) (omega (arith, a_is, a_b, b_c, c_in)) before_a (ap four a_is ∙ at_a)))
                (All-cons A (1, 5) ((2, 3) ∷ (2, 4) ∷ (2, 5) ∷ []) (next_cell 0 3 9 four differ four_not 1 5 (b - 1) (omega (arith, b_is, b_c, c_in)) before_b (ap four b_is ∙ at_b))
                (All-cons A (2, 3) ((2, 4) ∷ (2, 5) ∷ []) (adjoin_turned 0 3 9 four differ four_not 3 2 (y_to 0 3 9 four differ four_not 2 c c_in at_c y_c))
                (All-cons A (2, 4) ((2, 5) ∷ []) (round_cell 0 3 9 four differ four_not 2 4 (l - 1) (omega (arith, c_in)) before_l at_0)
                (All-cons A (2, 5) ([]) (adjoin_turned 0 3 9 four differ four_not 5 2
                (next_cell 0 3 9 four differ four_not 5 2 (c - 1) (omega (arith, c_is, c_in)) before_c (ap four c_is ∙ at_c)))
                (All-nil A)))))))));
          },
        )

  -- ---- three neighbours of both

  module _ (a b : ℕ) (a_some : 0 < a) (a_b : a < b) (b_in : b < l) (x_0 : IsHead xs (rim 0)) (y_0 : IsHead ys (rim 0)) (x_a : IsHead xs (rim a)) (y_a : IsHead ys (rim a))
      (x_b : IsHead xs (rim b)) (y_b : IsHead ys (rim b)) where
    abbrev three : ℕ → ℕ
    three j = cond (ltb j a) 2 (cond (ltb j b) 3 4)

    cases_three : (j : ℕ) → ((j < a) × (three j ≡ 2)) ⊎ (((a ≤ j) × (j < b) × (three j ≡ 3)) ⊎ ((b ≤ j) × (three j ≡ 4)))
    cases_three j = elim (cases_lt j a) [
      | inl one ↦ inl (one, cond-true _ _ _ (lt-ltb j a one))
      | inr not_one ↦ elim (cases_lt j b) [
        | inl two ↦ inr (inl (not_one, two, cond-false _ _ _ (le-ltb j a not_one) ∙ cond-true _ _ _ (lt-ltb j b two)))
        | inr not_two ↦ inr (inr (not_two, cond-false _ _ _ (le-ltb j a not_one) ∙ cond-false _ _ _ (le-ltb j b not_two)))
      ]
    ]

    three_not : (j : ℕ) → (three j ≢ 0) × (three j ≢ 1)
    three_not j = (λ same. omega (arith, same, cases_three j), λ same. omega (arith, same, cases_three j))

    unlike : ◌≢◌ {A = ℕ} 0 1
    unlike same = omega (arith, same)

    three_convex : (i a' j b' : ℕ) → a' ≤ j → j ≤ b' → b' < l → three a' ≡ i → three b' ≡ i → three j ≡ i
    three_convex i a' j b' low high low_l one two = omega (arith, low, high, one, two, cases_three a', cases_three j, cases_three b', a_b)

    abbrev clt : ℕ → ℕ
    clt = class 0 1 9 three unlike three_not

    pub three_common : HasMinor web
    three_common =
        let A : ℕ × ℕ → Type 0 = λ p. Adjoin web clt p.0 p.1 in
        let at_0 : three 0 ≡ 2 = omega (arith, cases_three 0, a_some) in
        let at_a : three a ≡ 3 = omega (arith, cases_three a, a_b) in
        let at_b : three b ≡ 4 = omega (arith, cases_three b, a_b) in
        let before_a : three (a - 1) ≡ 2 = omega (arith, cases_three (a - 1), a_some) in
        let before_b : three (b - 1) ≡ 3 = omega (arith, cases_three (b - 1), a_b) in
        let before_l : three (l - 1) ≡ 4 = omega (arith, cases_three (l - 1), a_b, b_in) in
        let a_is : suc (a - 1) ≡ a = omega (arith, a_some) in
        let b_is : suc (b - 1) ≡ b = omega (arith, a_b) in
        let a_in : a < l = omega (arith, a_b, b_in) in
        inl (
          clt,
          record {
            joined = λ i u v i_in at_u at_v. class_joined 0 1 9 three unlike three_not three_convex i u v (λ same. omega (arith, same, i_in)) at_u at_v;
            adjoin =
                All-cons A (0, 1) ((0, 2) ∷ (0, 3) ∷ (0, 4) ∷ (1, 2) ∷ (1, 3) ∷ (1, 4) ∷ (2, 3) ∷ (2, 4) ∷ (3, 4) ∷ []) (x_to_y 0 1 9 three unlike three_not)
                (All-cons A (0, 2) ((0, 3) ∷ (0, 4) ∷ (1, 2) ∷ (1, 3) ∷ (1, 4) ∷ (2, 3) ∷ (2, 4) ∷ (3, 4) ∷ []) (x_to 0 1 9 three unlike three_not 2 0 some at_0 x_0)
                (All-cons A (0, 3) ((0, 4) ∷ (1, 2) ∷ (1, 3) ∷ (1, 4) ∷ (2, 3) ∷ (2, 4) ∷ (3, 4) ∷ []) (x_to 0 1 9 three unlike three_not 3 a a_in at_a x_a)
                (All-cons A (0, 4) ((1, 2) ∷ (1, 3) ∷ (1, 4) ∷ (2, 3) ∷ (2, 4) ∷ (3, 4) ∷ []) (x_to 0 1 9 three unlike three_not 4 b b_in at_b x_b)
                (All-cons A (1, 2) ((1, 3) ∷ (1, 4) ∷ (2, 3) ∷ (2, 4) ∷ (3, 4) ∷ []) (y_to 0 1 9 three unlike three_not 2 0 some at_0 y_0)
                (All-cons A (1, 3) ((1, 4) ∷ (2, 3) ∷ (2, 4) ∷ (3, 4) ∷ []) (y_to 0 1 9 three unlike three_not 3 a a_in at_a y_a)
                (All-cons A (1, 4) ((2, 3) ∷ (2, 4) ∷ (3, 4) ∷ []) (y_to 0 1 9 three unlike three_not 4 b b_in at_b y_b)
                (All-cons A (2, 3) ((2, 4) ∷ (3, 4) ∷ []) (next_cell 0 1 9 three unlike three_not 2 3 (a - 1) (omega (arith, a_is, a_in)) before_a (ap three a_is ∙ at_a))
                (All-cons A (2, 4) ((3, 4) ∷ []) (adjoin_turned 0 1 9 three unlike three_not 4 2 (round_cell 0 1 9 three unlike three_not 4 2 (l - 1) (omega (arith, b_in)) before_l at_0))
                (All-cons A (3, 4) ([]) (next_cell 0 1 9 three unlike three_not 3 4 (b - 1) (omega (arith, b_is, b_in)) before_b (ap three b_is ∙ at_b))
                (All-nil A))))))))));
          },
        )
