-- Webs that fall apart without two nodes: what is proved of smaller webs serves them.
use Rattle.std.proofs.Common.{◌≡◌, ◌≢◌, ℕ, ◌+◌, ◌<◌, ◌⊎◌, inl, inr, Bool, true, false, not, ◌&&◌, ◌||◌, eqb, List, [], ◌∷◌, length, refl, sym, ◌∙◌, ap, subst, arith}
use Rattle.std.specs.Prelude.{filter}
use Rattle.std.proofs.lemmas.Bool.{and_from, and_left, and_parts, both_ways, cases_Bool, cases_eq, eq-eqb, not-true, not_from_false, or_cases, or_left, or_right, or_parts, false_from_ne_true}
use Rattle.xn_model.specs.Graph.{EndsIn, HasNoLoop, ends_at}
use Rattle.xn_model.specs.Lists.{has}
use Rattle.xn_model.specs.Map.{Joined, is_lone}
use Rattle.xn_model.proofs.ComponentWalks.{joined_sym, joined_trans}
use Rattle.xn_genus.proofs.Compress.{EndsIn_from}
use Rattle.xn_genus.proofs.Kept.{EndsIn_at}
use Rattle.xn_fewer.proofs.Lists.{lone_ends}
use Rattle.xn_fewer.proofs.Walks.{filter_from, filter_to, joined_ends}
use Rattle.xn_kuratowski.specs.Flat.{ShareOnlyTwo}
use Rattle.xn_kuratowski.specs.Reduction.{CutWebsGo, HasNoParallels, HoldsBelow, IsFlatOrHasMinor, away}
use Rattle.xn_kuratowski.proofs.Aways.{EndsIn-away, avoided_alone, cases_joined, joined_away, out_two, two_out, with_from, with_node, with_not, with_to}
use Rattle.xn_kuratowski.proofs.Passing.{segment_of, lone_if, filtered_in, at_a_node, at_two_nodes, two_segments}

module _ (nodes a b u v : ℕ) (ends : List (ℕ × ℕ)) (ends_in : EndsIn nodes ends) (no_loop : HasNoLoop ends) (holds : HoldsBelow (nodes + length ends))
    (none_lone : (w : ℕ) → w < nodes → is_lone ends w ≡ false) (single : HasNoParallels ends) (a_in : a < nodes) (b_in : b < nodes) (u_in : u < nodes) (v_in : v < nodes)
    (u_out : has (a ∷ b ∷ []) u ≡ false) (v_out : has (a ∷ b ∷ []) v ≡ false) (apart : Joined (away (a ∷ b ∷ []) ends) u v → ⊥) where
  abbrev S : List ℕ
  S = a ∷ b ∷ []

  abbrev web : List (ℕ × ℕ)
  web = away S ends

  web_in : EndsIn nodes web
  web_in = EndsIn-away nodes S ends ends_in

  abbrev K : ℕ → Bool
  K = with_node nodes web u

  -- a segment at a node that u is joined to
  abbrev t : ℕ × ℕ → Bool
  t p = K p.0 || K p.1

  abbrev first : List (ℕ × ℕ)
  first = filter t ends

  abbrev second : List (ℕ × ℕ)
  second = filter (λ p. not (t p)) ends

  K_u : K u ≡ true
  K_u = with_from nodes web web_in u u ([], refl)

  K_v : K v ≡ false
  K_v = with_not nodes web web_in u v u_in v_in apart

  u_not : (u ≢ a) × (u ≢ b)
  u_not = out_two a b u u_out

  v_not : (v ≢ a) × (v ≢ b)
  v_not = out_two a b v v_out

  -- those aren't a or b
  K_not : (w : ℕ) → w < nodes → K w ≡ true → (w ≢ a) × (w ≢ b)
  K_not w w_in on =
      let there = with_to nodes web web_in u w u_in w_in on in
      let never : (z : ℕ) → has S z ≡ true → u ≢ z → w ≢ z = λ z avoided other same. avoided_alone S ends u z avoided other (subst (λ c. Joined web u c) same there) in (
        never a (or_left (eqb a a) _ (eq-eqb a a refl)) u_not.0,
        never b (or_right (eqb a b) _ (or_left (eqb b b) _ (eq-eqb b b refl))) u_not.1,
      )

  -- a segment at one of them goes to another, or to a or b
  K_on : (s c w : ℕ) → s < length ends → ((ends_at ends s ≡ (c, w)) ⊎ (ends_at ends s ≡ (w, c))) → K c ≡ true → w ≢ a → w ≢ b → K w ≡ true
  K_on s c w s_in is on not_a not_b =
      let low = EndsIn_at nodes ends ends_in s s_in in
      let c_in : c < nodes = elim is [ inl e ↦ subst (λ z. z < nodes) (ap (λ p. p.0) e) low.0 | inr e ↦ subst (λ z. z < nodes) (ap (λ p. p.1) e) low.1 ] in
      let c_not = K_not c c_in on in
      let c_out = two_out a b c c_not.0 c_not.1 in
      let w_out = two_out a b w not_a not_b in
      let over : Joined web c w = elim is [
        | inl e ↦
            let P : ℕ × ℕ → Type 0 = λ p. Joined web p.0 p.1 in
            subst P e (joined_away S ends s s_in (ap (λ p. has S p.0) e ∙ c_out) (ap (λ p. has S p.1) e ∙ w_out))
        | inr e ↦
            let P : ℕ × ℕ → Type 0 = λ p. Joined web p.1 p.0 in
            subst P e (joined_sym web _ _ (joined_away S ends s s_in (ap (λ p. has S p.0) e ∙ w_out) (ap (λ p. has S p.1) e ∙ c_out)))
      ] in
      with_from nodes web web_in u w (joined_trans web u c w (with_to nodes web web_in u c u_in c_in on) over)

  -- what a node of the first web is, and of the second
  first_node : (s : ℕ) → s < length first → (w : ℕ) → ((ends_at first s).0 ≡ w) ⊎ ((ends_at first s).1 ≡ w) → w ≢ a → w ≢ b → K w ≡ true
  first_node s s_in w at_w not_a not_b =
      let found = filter_to t ends s s_in in
      let p = ends_at ends found.0 in
      let at_p : (p.0 ≡ w) ⊎ (p.1 ≡ w) = elim at_w [ inl e ↦ inl (ap (λ q. q.0) (sym found.2) ∙ e) | inr e ↦ inr (ap (λ q. q.1) (sym found.2) ∙ e) ] in
      elim (or_cases (K p.0) (K p.1) found.3) [
        | inl one ↦ elim at_p [
          | inl e ↦ ap K (sym e) ∙ one
          | inr e ↦ K_on found.0 p.0 w found.1 (inl (ap (λ z. (p.0, z)) e)) one not_a not_b
        ]
        | inr two ↦ elim at_p [
          | inr e ↦ ap K (sym e) ∙ two
          | inl e ↦ K_on found.0 p.1 w found.1 (inr (ap (λ z. (z, p.1)) e)) two not_a not_b
        ]
      ]

  second_node : (s : ℕ) → s < length second → (w : ℕ) → ((ends_at second s).0 ≡ w) ⊎ ((ends_at second s).1 ≡ w) → K w ≡ false
  second_node s s_in w at_w =
      let found = filter_to (λ p. not (t p)) ends s s_in in
      let p = ends_at ends found.0 in
      let off : (K p.0 ≡ false) × (K p.1 ≡ false) = or_parts (K p.0) (K p.1) (not-true _ found.3) in
      elim at_w [
        | inl e ↦ ap K (sym (ap (λ q. q.0) (sym found.2) ∙ e)) ∙ off.0
        | inr e ↦ ap K (sym (ap (λ q. q.1) (sym found.2) ∙ e)) ∙ off.1
      ]

  share : ShareOnlyTwo first second a b
  share w not_a not_b = elim (cases_Bool (K w)) [
    | inl on ↦ inr (lone_if second w (λ s s_in. (λ e. both_ways _ (second_node s s_in w (inl e)) on, λ e. both_ways _ (second_node s s_in w (inr e)) on)))
    | inr off ↦ inl (lone_if first w (λ s s_in.
        (λ e. both_ways _ off (first_node s s_in w (inl e) not_a not_b), λ e. both_ways _ off (first_node s s_in w (inr e) not_a not_b))))
  ]

  -- a segment at u, and one at v
  at_u : (s : ℕ) × (s < length first) × (((ends_at first s).0 ≡ u) ⊎ ((ends_at first s).1 ≡ u))
  at_u =
      let one = segment_of ends u (none_lone u u_in) in
      let on : t (ends_at ends one.0) ≡ true = elim one.2 [
        | inl e ↦ or_left _ _ (ap K e ∙ K_u)
        | inr e ↦ or_right (K (ends_at ends one.0).0) _ (ap K e ∙ K_u)
      ] in
      let found = filter_from t ends one.0 one.1 on in
      (found.0, found.1, elim one.2 [ inl e ↦ inl (ap (λ p. p.0) found.2 ∙ e) | inr e ↦ inr (ap (λ p. p.1) found.2 ∙ e) ])

  at_v : (s : ℕ) × (s < length second) × (((ends_at second s).0 ≡ v) ⊎ ((ends_at second s).1 ≡ v))
  at_v =
      let one = segment_of ends v (none_lone v v_in) in
      let p = ends_at ends one.0 in
      let off : t p ≡ false = false_from_ne_true _ (λ on. both_ways _ K_v (elim (or_cases (K p.0) (K p.1) on) [
        | inl first_on ↦ elim one.2 [
          | inl e ↦ ap K (sym e) ∙ first_on
          | inr e ↦ K_on one.0 p.0 v one.1 (inl (ap (λ z. (p.0, z)) e)) first_on v_not.0 v_not.1
        ]
        | inr second_on ↦ elim one.2 [
          | inr e ↦ ap K (sym e) ∙ second_on
          | inl e ↦ K_on one.0 p.1 v one.1 (inr (ap (λ z. (z, p.1)) e)) second_on v_not.0 v_not.1
        ]
      ])) in
      let found = filter_from (λ q. not (t q)) ends one.0 one.1 (not_from_false _ off) in
      (found.0, found.1, elim one.2 [ inl e ↦ inl (ap (λ q. q.0) found.2 ∙ e) | inr e ↦ inr (ap (λ q. q.1) found.2 ∙ e) ])

  -- the part of one of the two webs that is joined to a, against all else
  module _ (other : a ≢ b) (q : ℕ × ℕ → Bool) (far : (w : ℕ) → w ≢ a → w ≢ b → (is_lone (filter q ends) w ≡ true) ⊎ (is_lone (filter (λ p. not (q p)) ends) w ≡ true))
      (no_way : Joined (filter q ends) a b → ⊥) (used : is_lone (filter q ends) a ≡ false) (some : 0 < length (filter (λ p. not (q p)) ends)) where
    abbrev part : List (ℕ × ℕ)
    part = filter q ends

    part_in : EndsIn nodes part
    part_in = EndsIn_from nodes part (λ s s_in.
        let found = filter_to q ends s s_in in
        let P : ℕ × ℕ → Type 0 = λ p. (p.0 < nodes) × (p.1 < nodes) in
        subst P (sym found.2) (EndsIn_at nodes ends ends_in found.0 found.1))

    abbrev A : ℕ → Bool
    A = with_node nodes part a

    abbrev r : ℕ × ℕ → Bool
    r p = q p && A p.0

    -- the two ends of a segment of the part
    alike : (s w z : ℕ) → s < length ends → q (ends_at ends s) ≡ true → ((ends_at ends s ≡ (w, z)) ⊎ (ends_at ends s ≡ (z, w))) → A w ≡ true → A z ≡ true
    alike s w z s_in on is in_A =
        let low = EndsIn_at nodes ends ends_in s s_in in
        let w_in : w < nodes = elim is [ inl e ↦ subst (λ c. c < nodes) (ap (λ p. p.0) e) low.0 | inr e ↦ subst (λ c. c < nodes) (ap (λ p. p.1) e) low.1 ] in
        let found = filter_from q ends s s_in on in
        let over : Joined part w z = elim is [
          | inl e ↦ let P : ℕ × ℕ → Type 0 = λ p. Joined part p.0 p.1 in subst P (found.2 ∙ e) (joined_ends part found.0 found.1)
          | inr e ↦ let P : ℕ × ℕ → Type 0 = λ p. Joined part p.1 p.0 in subst P (found.2 ∙ e) (joined_sym part _ _ (joined_ends part found.0 found.1))
        ] in
        with_from nodes part part_in a z (joined_trans part a w z (with_to nodes part part_in a w a_in w_in in_A) over)

    A_a : A a ≡ true
    A_a = with_from nodes part part_in a a ([], refl)

    A_b : A b ≡ false
    A_b = with_not nodes part part_in a b a_in b_in no_way

    near_node : (s w : ℕ) → s < length (filter r ends) → ((ends_at (filter r ends) s).0 ≡ w) ⊎ ((ends_at (filter r ends) s).1 ≡ w) → (A w ≡ true) × (is_lone part w ≡ false)
    near_node s w s_in at_w =
        let found = filter_to r ends s s_in in
        let p = ends_at ends found.0 in
        let two : (q p ≡ true) × (A p.0 ≡ true) = and_parts (q p) (A p.0) found.3 in
        let again = filter_from q ends found.0 found.1 two.0 in
        let used_by : (z : ℕ) → (p.0 ≡ z) ⊎ (p.1 ≡ z) → is_lone part z ≡ false = λ z which. false_from_ne_true _ (λ alone.
        let no = lone_ends part z alone again.0 again.1 in
        elim which [ inl e ↦ no.0 (ap (λ c. c.0) again.2 ∙ e) | inr e ↦ no.1 (ap (λ c. c.1) again.2 ∙ e) ]) in
        elim at_w [
          | inl e ↦ let is = ap (λ c. c.0) (sym found.2) ∙ e in (ap A (sym is) ∙ two.1, used_by w (inl is))
          | inr e ↦ let is = ap (λ c. c.1) (sym found.2) ∙ e in (alike found.0 p.0 w found.1 two.0 (inl (ap (λ z. (p.0, z)) is)) two.1, used_by w (inr is))
        ]

    far_share : ShareOnlyTwo (filter r ends) (filter (λ p. not (r p)) ends) a a
    far_share w not_a again = elim (cases_Bool (is_lone (filter r ends) w)) [
      | inl alone ↦ inl alone
      | inr met ↦
          let one = segment_of (filter r ends) w met in
          let near = near_node one.0 w one.1 one.2 in
          let not_b : w ≢ b = λ same. both_ways _ A_b (ap A (sym same) ∙ near.0) in
          inr (lone_if (filter (λ p. not (r p)) ends) w (λ s s_in.
          let found = filter_to (λ p. not (r p)) ends s s_in in
          let p = ends_at ends found.0 in
          let never : ((p.0 ≡ w) ⊎ (p.1 ≡ w)) → ⊥ = λ which. elim (cases_Bool (q p)) [
            | inl on ↦
                let in_A : A p.0 ≡ true = elim which [ inl e ↦ ap A e ∙ near.0 | inr e ↦ alike found.0 w p.0 found.1 on (inr (ap (λ z. (p.0, z)) e)) near.0 ] in
                both_ways _ (not-true _ found.3) (and_from (q p) (A p.0) on in_A)
            | inr off ↦
                let again_in = filter_from (λ c. not (q c)) ends found.0 found.1 (not_from_false _ off) in
                elim (far w not_a not_b) [
                  | inl alone ↦ both_ways _ near.1 alone
                  | inr alone ↦
                      let no = lone_ends (filter (λ c. not (q c)) ends) w alone again_in.0 again_in.1 in
                      elim which [ inl e ↦ no.0 (ap (λ c. c.0) again_in.2 ∙ e) | inr e ↦ no.1 (ap (λ c. c.1) again_in.2 ∙ e) ]
                ]
          ] in
          (λ e. never (inl (ap (λ c. c.0) (sym found.2) ∙ e)), λ e. never (inr (ap (λ c. c.1) (sym found.2) ∙ e)))))
    ]

    near_some : 0 < length (filter r ends)
    near_some =
        let one = segment_of part a used in
        let found = filter_to q ends one.0 one.1 in
        let p = ends_at ends found.0 in
        let in_A : A p.0 ≡ true = elim one.2 [
          | inl e ↦ ap A (ap (λ c. c.0) (sym found.2) ∙ e) ∙ A_a
          | inr e ↦ alike found.0 a p.0 found.1 found.3 (inr (ap (λ z. (p.0, z)) (ap (λ c. c.1) (sym found.2) ∙ e))) A_a
        ] in
        let there = filter_from r ends found.0 found.1 (and_from (q p) (A p.0) found.3 in_A) in
        omega (arith, there.1)

    far_some : 0 < length (filter (λ p. not (r p)) ends)
    far_some =
        let found = filter_to (λ p. not (q p)) ends 0 some in
        let p = ends_at ends found.0 in
        let there = filter_from (λ c. not (r c)) ends found.0 found.1 (not_from_false _ (and_left (q p) (A p.0) (not-true _ found.3))) in
        omega (arith, there.1)

    pub apart_at_a : IsFlatOrHasMinor nodes ends
    apart_at_a = at_a_node nodes ends ends_in no_loop single holds r a near_some far_some far_share

  first_some : 0 < length first
  first_some = omega (arith, at_u.1)

  second_some : 0 < length second
  second_some = omega (arith, at_v.1)

  -- they share one node alone
  one_node : (c : ℕ) → ((w : ℕ) → w ≢ c → (is_lone first w ≡ true) ⊎ (is_lone second w ≡ true)) → IsFlatOrHasMinor nodes ends
  one_node c alone = at_a_node nodes ends ends_in no_loop single holds t c first_some second_some (λ w other again. alone w other)

  pub cut_goes : IsFlatOrHasMinor nodes ends
  cut_goes = elim (cases_eq a b) [
    | inl same ↦ one_node a (λ w other. share w other (λ at_b. other (at_b ∙ sym same)))
    | inr other ↦ elim (cases_Bool (is_lone second a)) [
      | inl alone ↦ one_node b (λ w not_b. elim (cases_eq w a) [
        | inl at_a ↦ inr (ap (is_lone second) at_a ∙ alone)
        | inr not_a ↦ share w not_a not_b
      ])
      | inr used_second ↦ elim (cases_Bool (is_lone first a)) [
        | inl alone ↦ one_node b (λ w not_b. elim (cases_eq w a) [
          | inl at_a ↦ inl (ap (is_lone first) at_a ∙ alone)
          | inr not_a ↦ share w not_a not_b
        ])
        | inr used_first ↦
            let first_in = (filtered_in nodes ends ends_in no_loop single holds t t).0 in
            let second_in = (filtered_in nodes ends ends_in no_loop single holds t (λ p. not (t p))).0 in
            elim (cases_joined nodes second second_in a b a_in b_in) [
              | inr no_way ↦ apart_at_a other (λ p. not (t p)) (λ w not_a not_b. elim (share w not_a not_b) [
                | inl one ↦ inr (doubled w one)
                | inr two ↦ inl two
              ]) no_way used_second (subst (λ list. 0 < length list) (sym double) first_some)
              | inl second_way ↦ elim (cases_joined nodes first first_in a b a_in b_in) [
                | inr no_way ↦ apart_at_a other t share no_way used_first second_some
                | inl first_way ↦
                    at_two_nodes nodes ends ends_in no_loop single holds t a b a_in b_in other
                    (two_segments first a b u at_u.0 other u_not.0 u_not.1 at_u.1 at_u.2 first_way)
                    (two_segments second a b v at_v.0 other v_not.0 v_not.1 at_v.1 at_v.2 second_way)
                    share first_way second_way
              ]
            ]
      ]
    ]
  ]
    where
      twice : (x : Bool) → not (not x) ≡ x
      twice true = refl
      twice false = refl

      double : filter (λ p. not (not (t p))) ends ≡ filter t ends
      double = ap (λ (k : ℕ × ℕ → Bool). filter k ends) (λ i p. twice (t p) i)

      doubled : (w : ℕ) → is_lone (filter t ends) w ≡ true → is_lone (filter (λ p. not (not (t p))) ends) w ≡ true
      doubled w alone = ap (λ list. is_lone list w) double ∙ alone

pub cut_webs_go : CutWebsGo
cut_webs_go nodes a b u v ends ends_in no_loop holds none_lone single a_in b_in u_in v_in u_out v_out apart =
    cut_goes nodes a b u v ends ends_in no_loop holds none_lone single a_in b_in u_in v_in u_out v_out apart
