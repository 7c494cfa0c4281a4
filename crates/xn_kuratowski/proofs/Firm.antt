-- Where no two nodes separate others, a segment with a third node doesn't either: of those that separate, with what they cut off, none is least.
use Rattle.std.proofs.Common.{◌≡◌, ◌≢◌, ℕ, zero, suc, ◌<◌, ◌⊎◌, inl, inr, Bool, true, false, not, ◌&&◌, eqb, List, [], ◌∷◌, length, refl, sym, ◌∙◌, ap, subst, arith}
use Rattle.std.proofs.lemmas.Bool.{both_ways, cases_Bool, cases_eq, and_from, and_parts, eq-eqb, or_left, or_right, not_from_false, false_from_ne_true}
use Rattle.xn_model.specs.Graph.{EndsIn, HasNoLoop, ends_at}
use Rattle.xn_model.specs.Lists.{has, one_if}
use Rattle.xn_model.specs.Map.{Joined}
use Rattle.xn_model.specs.Permutation.{count_below}
use Rattle.xn_model.proofs.ComponentWalks.{joined_sym, joined_trans}
use Rattle.xn_ring.proofs.Counting.{count-parts, count-same}
use Rattle.xn_genus.proofs.Counts.{count_below-drop}
use Rattle.xn_genus.proofs.Kept.{EndsIn_at}
use Rattle.xn_genus.proofs.Tests.{some_below, some_below-from, some_below-to}
use Rattle.xn_fewer.proofs.Walks.{filter_to, joined_closed, joined_ends, joined_within, walk_leaves}
use Rattle.xn_model.proofs.Tests.{same_tests}
use Rattle.xn_kuratowski.specs.Reduction.{away, is_clear}
use Rattle.xn_kuratowski.proofs.Aways.{EndsIn-away, avoided_alone, cases_joined, clear_to, joined_away, out_three, out_two, three_out, two_out, with_from, with_node, with_not, with_to}
use Rattle.xn_kuratowski.proofs.Separation.{IsFirm, NoTwoSeparate, SomeSegmentIsFirm, are_apart, falls_apart, some_two, stays_whole}

-- fewer numbers pass a stricter test
pub count-less : (n : ℕ) (p q : ℕ → Bool) (m : ℕ) → m < n → ((d : ℕ) → d < n → p d ≡ true → q d ≡ true) → q m ≡ true → p m ≡ false → count_below n p < count_below n q
count-less n p q m m_in under on off =
    let parts = count-parts n q p in
    let same : count_below n (λ d. q d && p d) ≡ count_below n p = count-same n _ _ (λ d d_in. same_tests (q d && p d) (p d)
    (λ h. let two : (q d ≡ true) × (p d ≡ true) = and_parts (q d) (p d) h in two.1) (λ h. and_from (q d) (p d) (under d d_in h) h)) in
    let drop = count_below-drop n (λ d. q d && not (p d)) m m_in in
    let one : one_if (q m && not (p m)) ≡ 1 = ap one_if (and_from (q m) (not (p m)) on (not_from_false _ off)) in
    omega (arith, parts, same, drop, one)

-- walks away from more nodes are walks away from fewer
fewer_avoided : (avoid less : List ℕ) (ends : List (ℕ × ℕ)) → ((z : ℕ) → has avoid z ≡ false → has less z ≡ false) → (u v : ℕ) → Joined (away avoid ends) u v → Joined (away less ends) u v
fewer_avoided avoid less ends weaker u v there = joined_within (away avoid ends) (away less ends) (λ s s_in.
    let found = filter_to (is_clear avoid) ends s s_in in
    let clear = clear_to avoid (ends_at ends found.0) found.3 in
    let P : ℕ × ℕ → Type 0 = λ p. Joined (away less ends) p.0 p.1 in
    subst P (sym found.2) (joined_away less ends found.0 found.1 (weaker _ clear.0) (weaker _ clear.1))) u v there

-- a segment, a node, and two nodes that these cut off from each other
pub record Cuts (nodes : ℕ) (ends : List (ℕ × ℕ)) (x y w u v : ℕ) : Type 0 where
  pub segment : ℕ
  pub segment_in : segment < length ends
  pub is : (ends_at ends segment ≡ (x, y)) ⊎ (ends_at ends segment ≡ (y, x))
  pub w_in : w < nodes
  pub u_in : u < nodes
  pub v_in : v < nodes
  pub u_out : has (x ∷ y ∷ w ∷ []) u ≡ false
  pub v_out : has (x ∷ y ∷ w ∷ []) v ≡ false
  pub apart : Joined (away (x ∷ y ∷ w ∷ []) ends) u v → ⊥

abbrev HasFirm : ℕ → List (ℕ × ℕ) → Type 0
HasFirm nodes ends = (s : ℕ) × (s < length ends) × IsFirm nodes ends s

module _ (nodes : ℕ) (ends : List (ℕ × ℕ)) (ends_in : EndsIn nodes ends) (no_loop : HasNoLoop ends) (whole : NoTwoSeparate nodes ends) where
  -- a segment is firm, or cuts
  firm_or_cuts : (s : ℕ) → s < length ends → IsFirm nodes ends s ⊎ ((w u v : ℕ) × Cuts nodes ends (ends_at ends s).0 (ends_at ends s).1 w u v)
  firm_or_cuts s s_in =
      let x = (ends_at ends s).0 in
      let y = (ends_at ends s).1 in
      let test : ℕ → Bool = λ w. some_two nodes (are_apart nodes ends (x ∷ y ∷ w ∷ [])) in
      elim (cases_Bool (some_below nodes test)) [
        | inl some ↦
            let found = some_below-to nodes test some in
            let two = falls_apart nodes ends (x ∷ y ∷ found.0 ∷ []) ends_in found.2 in
            inr (found.0, two.0, two.1, record { segment = s; segment_in = s_in; is = inl refl; w_in = found.1; u_in = two.2; v_in = two.3; u_out = two.4; v_out = two.5; apart = two.6 })
        | inr none ↦ inl (λ w w_in. stays_whole nodes ends (x ∷ y ∷ w ∷ []) ends_in (false_from_ne_true _ (λ h. both_ways _ none (some_below-from nodes test w w_in h))))
      ]

  module _ (x y w u v : ℕ) (cuts : Cuts nodes ends x y w u v) where
    abbrev S : List ℕ
    S = x ∷ y ∷ w ∷ []

    -- the nodes that stay with u
    abbrev K : ℕ → Bool
    K = with_node nodes (away S ends) u

    S_in : EndsIn nodes (away S ends)
    S_in = EndsIn-away nodes S ends ends_in

    xy_in : (x < nodes) × (y < nodes) × (x ≢ y)
    xy_in =
        let low = EndsIn_at nodes ends ends_in cuts.segment cuts.segment_in in
        let other = no_loop cuts.segment cuts.segment_in in
        elim cuts.is [
          | inl e ↦ (subst (λ z. z < nodes) (ap (λ p. p.0) e) low.0, subst (λ z. z < nodes) (ap (λ p. p.1) e) low.1, λ same. other (ap (λ p. p.0) e ∙ same ∙ ap (λ p. p.1) (sym e)))
          | inr e ↦ (subst (λ z. z < nodes) (ap (λ p. p.1) e) low.1, subst (λ z. z < nodes) (ap (λ p. p.0) e) low.0, λ same. other (ap (λ p. p.0) e ∙ sym same ∙ ap (λ p. p.1) (sym e)))
        ]

    u_not : (u ≢ x) × (u ≢ y) × (u ≢ w)
    u_not = out_three x y w u cuts.u_out

    v_not : (v ≢ x) × (v ≢ y) × (v ≢ w)
    v_not = out_three x y w v cuts.v_out

    -- w is a third node
    w_third : (w ≢ x) × (w ≢ y)
    w_third =
        let same_as : (w ≡ x) ⊎ (w ≡ y) → ⊥ = λ same.
        cuts.apart (fewer_avoided (x ∷ y ∷ []) S ends (λ z h.
        let out = out_two x y z h in
        three_out x y w z out.0 out.1 (λ at. elim same [ inl e ↦ out.0 (at ∙ e) | inr e ↦ out.1 (at ∙ e) ])) u v
        (whole x y xy_in.0 xy_in.1 u v cuts.u_in cuts.v_in (two_out x y u u_not.0 u_not.1) (two_out x y v v_not.0 v_not.1))) in
        (λ same. same_as (inl same), λ same. same_as (inr same))

    -- a node c that stays with u, beside w
    beside : (r : ℕ) × (r < length ends) × (c : ℕ) × (K c ≡ true) × ((ends_at ends r ≡ (c, w)) ⊎ (ends_at ends r ≡ (w, c)))
    beside =
        let web = away (x ∷ y ∷ []) ends in
        let to_w = whole x y xy_in.0 xy_in.1 u w cuts.u_in cuts.w_in (two_out x y u u_not.0 u_not.1) (two_out x y w w_third.0 w_third.1) in
        let own : K u ≡ true = with_from nodes (away S ends) S_in u u ([], refl) in
        let w_out : K w ≡ false = with_not nodes (away S ends) S_in u w cuts.u_in cuts.w_in
        (avoided_alone S ends u w (or_right (eqb x w) _ (or_right (eqb y w) _ (or_left (eqb w w) _ (eq-eqb w w refl)))) u_not.2) in
        let out = walk_leaves web K u w to_w own w_out in
        let found = filter_to (is_clear (x ∷ y ∷ [])) ends out.0 out.1 in
        let r = found.0 in
        let c = out.2 in
        let z = out.3 in
        let is : (ends_at ends r ≡ (c, z)) ⊎ (ends_at ends r ≡ (z, c)) = elim out.6 [ inl e ↦ inl (sym found.2 ∙ e) | inr e ↦ inr (sym found.2 ∙ e) ] in
        let low = EndsIn_at nodes ends ends_in r found.1 in
        let clear = clear_to (x ∷ y ∷ []) (ends_at ends r) found.3 in
        let both_low : (c < nodes) × (z < nodes) × (has (x ∷ y ∷ []) c ≡ false) × (has (x ∷ y ∷ []) z ≡ false) = elim is [
          | inl e ↦ (
            subst (λ t. t < nodes) (ap (λ p. p.0) e) low.0,
            subst (λ t. t < nodes) (ap (λ p. p.1) e) low.1,
            ap (λ p. has (x ∷ y ∷ []) p.0) (sym e) ∙ clear.0,
            ap (λ p. has (x ∷ y ∷ []) p.1) (sym e) ∙ clear.1,
          )
          | inr e ↦ (
            subst (λ t. t < nodes) (ap (λ p. p.1) e) low.1,
            subst (λ t. t < nodes) (ap (λ p. p.0) e) low.0,
            ap (λ p. has (x ∷ y ∷ []) p.1) (sym e) ∙ clear.1,
            ap (λ p. has (x ∷ y ∷ []) p.0) (sym e) ∙ clear.0,
          )
        ] in
        let c_with = with_to nodes (away S ends) S_in u c cuts.u_in both_low.0 out.4 in
        elim (cases_eq z w) [
          | inl at_w ↦ (r, found.1, c, out.4, elim is [ inl e ↦ inl (e ∙ ap (λ t. (c, t)) at_w) | inr e ↦ inr (e ∙ ap (λ t. (t, c)) at_w) ])
          | inr not_w ↦
              let c_not_w : c ≢ w = λ same. both_ways _ w_out (ap K (sym same) ∙ out.4) in
              let c_xy = out_two x y c both_low.2 in
              let z_xy = out_two x y z both_low.3 in
              let c_out = three_out x y w c c_xy.0 c_xy.1 c_not_w in
              let z_out = three_out x y w z z_xy.0 z_xy.1 not_w in
              let on : Joined (away S ends) c z = elim is [
                | inl e ↦
                    let P : ℕ × ℕ → Type 0 = λ p. Joined (away S ends) p.0 p.1 in
                    subst P e (joined_away S ends r found.1 (ap (λ p. has S p.0) e ∙ c_out) (ap (λ p. has S p.1) e ∙ z_out))
                | inr e ↦
                    let P : ℕ × ℕ → Type 0 = λ p. Joined (away S ends) p.1 p.0 in
                    subst P e (joined_sym (away S ends) _ _ (joined_away S ends r found.1 (ap (λ p. has S p.0) e ∙ z_out) (ap (λ p. has S p.1) e ∙ c_out)))
              ] in
              absurd (both_ways _ out.5 (with_from nodes (away S ends) S_in u z (joined_trans (away S ends) u c z c_with on)))
        ]

    abbrev r : ℕ
    r = beside.0

    abbrev c : ℕ
    c = beside.2

    c_in : c < nodes
    c_in =
        let low = EndsIn_at nodes ends ends_in r beside.1 in
        elim beside.4 [ inl e ↦ subst (λ t. t < nodes) (ap (λ p. p.0) e) low.0 | inr e ↦ subst (λ t. t < nodes) (ap (λ p. p.1) e) low.1 ]

    c_with_u : Joined (away S ends) u c
    c_with_u = with_to nodes (away S ends) S_in u c cuts.u_in c_in beside.3

    c_not : (c ≢ x) × (c ≢ y) × (c ≢ w)
    c_not =
        let never : (z : ℕ) → has S z ≡ true → u ≢ z → c ≢ z = λ z avoided other same.
        avoided_alone S ends u z avoided other (subst (λ t. Joined (away S ends) u t) same c_with_u) in (
          never x (or_left (eqb x x) _ (eq-eqb x x refl)) u_not.0,
          never y (or_right (eqb x y) _ (or_left (eqb y y) _ (eq-eqb y y refl))) u_not.1,
          never w (or_right (eqb x w) _ (or_right (eqb y w) _ (or_left (eqb w w) _ (eq-eqb w w refl)))) u_not.2,
        )

    -- what c, w and a third node t cut off, without x and y, is less
    module _ (t f : ℕ) (t_in : t < nodes) (f_in : f < nodes) (f_out : has (c ∷ w ∷ t ∷ []) f ≡ false) (t_third : (t ≢ c) × (t ≢ w))
        (no_x : Joined (away (c ∷ w ∷ t ∷ []) ends) f x → ⊥) (no_y : Joined (away (c ∷ w ∷ t ∷ []) ends) f y → ⊥) where
      abbrev T : List ℕ
      T = c ∷ w ∷ t ∷ []

      abbrev D : ℕ → Bool
      D = with_node nodes (away T ends) f

      T_in : EndsIn nodes (away T ends)
      T_in = EndsIn-away nodes T ends ends_in

      f_not : (f ≢ c) × (f ≢ w) × (f ≢ t)
      f_not = out_three c w t f f_out

      -- a walk within D is away from x, y and w
      over : (g h : ℕ) → Joined (away T ends) f g → Joined (away T ends) g h → Joined (away S ends) g h
      over g h to_g there = joined_closed (away T ends) (away S ends) (λ z. Joined (away T ends) f z)
          (λ s s_in at. let on = joined_ends (away T ends) s s_in in let second = joined_trans (away T ends) f _ _ at on in (second, segment s s_in at second))
          (λ s s_in at. let on = joined_ends (away T ends) s s_in in let first = joined_trans (away T ends) f _ _ at (joined_sym (away T ends) _ _ on) in (first, segment s s_in first at))
          g h there to_g
        where
          segment : (s : ℕ) → s < length (away T ends) → Joined (away T ends) f (ends_at (away T ends) s).0 → Joined (away T ends) f (ends_at (away T ends) s).1 →
              Joined (away S ends) (ends_at (away T ends) s).0 (ends_at (away T ends) s).1
          segment s s_in first second =
              let found = filter_to (is_clear T) ends s s_in in
              let clear = clear_to T (ends_at ends found.0) found.3 in
              let one = out_three c w t _ clear.0 in
              let two = out_three c w t _ clear.1 in
              let P : ℕ × ℕ → Type 0 = λ p. Joined (away S ends) p.0 p.1 in
              let A : ℕ → Type 0 = λ z. Joined (away T ends) f z in
              let f_first = subst A (ap (λ p. p.0) found.2) first in
              let f_second = subst A (ap (λ p. p.1) found.2) second in
              subst P (sym found.2) (joined_away S ends found.0 found.1
              (three_out x y w _ (λ at. no_x (subst A at f_first)) (λ at. no_y (subst A at f_first)) one.1)
              (three_out x y w _ (λ at. no_x (subst A at f_second)) (λ at. no_y (subst A at f_second)) two.1))

      -- some node of D is beside c
      near : (d : ℕ) × (d < nodes) × Joined (away T ends) f d × Joined (away S ends) d c
      near =
          let web = away (w ∷ t ∷ []) ends in
          let to_c = whole w t cuts.w_in t_in f c f_in c_in (two_out w t f f_not.1 f_not.2) (two_out w t c c_not.2 (λ same. t_third.0 (sym same))) in
          let own : D f ≡ true = with_from nodes (away T ends) T_in f f ([], refl) in
          let c_out : D c ≡ false = with_not nodes (away T ends) T_in f c f_in c_in
          (avoided_alone T ends f c (or_left (eqb c c) _ (eq-eqb c c refl)) f_not.0) in
          let out = walk_leaves web D f c to_c own c_out in
          let found = filter_to (is_clear (w ∷ t ∷ [])) ends out.0 out.1 in
          let s = found.0 in
          let d = out.2 in
          let z = out.3 in
          let is : (ends_at ends s ≡ (d, z)) ⊎ (ends_at ends s ≡ (z, d)) = elim out.6 [ inl e ↦ inl (sym found.2 ∙ e) | inr e ↦ inr (sym found.2 ∙ e) ] in
          let low = EndsIn_at nodes ends ends_in s found.1 in
          let clear = clear_to (w ∷ t ∷ []) (ends_at ends s) found.3 in
          let lows : (d < nodes) × (z < nodes) × (has (w ∷ t ∷ []) d ≡ false) × (has (w ∷ t ∷ []) z ≡ false) = elim is [
            | inl e ↦ (
              subst (λ a. a < nodes) (ap (λ p. p.0) e) low.0,
              subst (λ a. a < nodes) (ap (λ p. p.1) e) low.1,
              ap (λ p. has (w ∷ t ∷ []) p.0) (sym e) ∙ clear.0,
              ap (λ p. has (w ∷ t ∷ []) p.1) (sym e) ∙ clear.1,
            )
            | inr e ↦ (
              subst (λ a. a < nodes) (ap (λ p. p.1) e) low.1,
              subst (λ a. a < nodes) (ap (λ p. p.0) e) low.0,
              ap (λ p. has (w ∷ t ∷ []) p.1) (sym e) ∙ clear.1,
              ap (λ p. has (w ∷ t ∷ []) p.0) (sym e) ∙ clear.0,
            )
          ] in
          let f_to_d = with_to nodes (away T ends) T_in f d f_in lows.0 out.4 in
          let d_two = out_two w t d lows.2 in
          let z_two = out_two w t z lows.3 in
          let d_not_c : d ≢ c = λ same. both_ways _ c_out (ap D (sym same) ∙ out.4) in
          let A : ℕ → Type 0 = λ a. Joined (away T ends) f a in
          let across : (avoid : List ℕ) → has avoid d ≡ false → has avoid z ≡ false → Joined (away avoid ends) d z = λ avoid d_out z_out. elim is [
            | inl e ↦
                let P : ℕ × ℕ → Type 0 = λ p. Joined (away avoid ends) p.0 p.1 in
                subst P e (joined_away avoid ends s found.1 (ap (λ p. has avoid p.0) e ∙ d_out) (ap (λ p. has avoid p.1) e ∙ z_out))
            | inr e ↦
                let P : ℕ × ℕ → Type 0 = λ p. Joined (away avoid ends) p.1 p.0 in
                subst P e (joined_sym (away avoid ends) _ _ (joined_away avoid ends s found.1 (ap (λ p. has avoid p.0) e ∙ z_out) (ap (λ p. has avoid p.1) e ∙ d_out)))
          ] in
          elim (cases_eq z c) [
            | inl at_c ↦
                let z_out : has S z ≡ false = three_out x y w z (λ same. c_not.0 (sym at_c ∙ same)) (λ same. c_not.1 (sym at_c ∙ same)) z_two.0 in
                let d_out : has S d ≡ false = three_out x y w d (λ same. no_x (subst A same f_to_d)) (λ same. no_y (subst A same f_to_d)) d_two.0 in
                (d, lows.0, f_to_d, subst (λ a. Joined (away S ends) d a) at_c (across S d_out z_out))
            | inr not_c ↦
                let on = across T (three_out c w t d d_not_c d_two.0 d_two.1) (three_out c w t z not_c z_two.0 z_two.1) in
                absurd (both_ways _ out.5 (with_from nodes (away T ends) T_in f z (joined_trans (away T ends) f d z f_to_d on)))
          ]

      less : count_below nodes D < count_below nodes K
      less = count-less nodes D K c c_in
          (λ g g_in in_D.
          let f_to_g = with_to nodes (away T ends) T_in f g f_in g_in in_D in
          let d = near.0 in
          let d_to_g = over d g near.2 (joined_trans (away T ends) d f g (joined_sym (away T ends) f d near.2) f_to_g) in
          with_from nodes (away S ends) S_in u g (joined_trans (away S ends) u c g c_with_u (joined_trans (away S ends) c d g (joined_sym (away S ends) d c near.3) d_to_g)))
          beside.3
          (with_not nodes (away T ends) T_in f c f_in c_in (avoided_alone T ends f c (or_left (eqb c c) _ (eq-eqb c c refl)) f_not.0))

    -- of two nodes that c, w and t cut off from each other, one isn't with x or y
    module _ (t f g : ℕ) (next : Cuts nodes ends c w t f g) where
      abbrev T' : List ℕ
      T' = c ∷ w ∷ t ∷ []

      T'_in : EndsIn nodes (away T' ends)
      T'_in = EndsIn-away nodes T' ends ends_in

      -- t is a third node
      t_third : (t ≢ c) × (t ≢ w)
      t_third =
          let f_out = out_three c w t f next.u_out in
          let g_out = out_three c w t g next.v_out in
          let same_as : (t ≡ c) ⊎ (t ≡ w) → ⊥ = λ same.
          next.apart (fewer_avoided (c ∷ w ∷ []) T' ends (λ z h.
          let out = out_two c w z h in
          three_out c w t z out.0 out.1 (λ at. elim same [ inl e ↦ out.0 (at ∙ e) | inr e ↦ out.1 (at ∙ e) ])) f g
          (whole c w c_in cuts.w_in f g next.u_in next.v_in (two_out c w f f_out.0 f_out.1) (two_out c w g g_out.0 g_out.1))) in
          (λ same. same_as (inl same), λ same. same_as (inr same))

      x_to_y : has T' x ≡ false → has T' y ≡ false → Joined (away T' ends) x y
      x_to_y x_out y_out = elim cuts.is [
        | inl e ↦
            let P : ℕ × ℕ → Type 0 = λ p. Joined (away T' ends) p.0 p.1 in
            subst P e (joined_away T' ends cuts.segment cuts.segment_in (ap (λ p. has T' p.0) e ∙ x_out) (ap (λ p. has T' p.1) e ∙ y_out))
        | inr e ↦
            let P : ℕ × ℕ → Type 0 = λ p. Joined (away T' ends) p.1 p.0 in
            subst P e (joined_sym (away T' ends) _ _ (joined_away T' ends cuts.segment cuts.segment_in (ap (λ p. has T' p.0) e ∙ y_out) (ap (λ p. has T' p.1) e ∙ x_out)))
      ]

      -- a node that another one is joined to isn't avoided
      reached_out : (a z : ℕ) → has T' a ≡ false → Joined (away T' ends) a z → has T' z ≡ false
      reached_out a z a_out there = elim (cases_Bool (has T' z)) [
        | inr out ↦ out
        | inl avoided ↦ absurd (avoided_alone T' ends a z avoided (λ same. both_ways _ a_out (ap (has T') same ∙ avoided)) there)
      ]

      abbrev Free : ℕ → Type 0
      Free a = (Joined (away T' ends) a x → ⊥) × (Joined (away T' ends) a y → ⊥)

      -- each of them is with x or y, or free
      cases_free : (a : ℕ) → a < nodes → Free a ⊎ (Joined (away T' ends) a x ⊎ Joined (away T' ends) a y)
      cases_free a a_in = elim (cases_joined nodes (away T' ends) T'_in a x a_in xy_in.0) [
        | inl there ↦ inr (inl there)
        | inr no_x ↦ elim (cases_joined nodes (away T' ends) T'_in a y a_in xy_in.1) [
          | inl there ↦ inr (inr there)
          | inr no_y ↦ inl (no_x, no_y)
        ]
      ]

      one_free : Free f ⊎ Free g
      one_free = elim (cases_free f next.u_in) [
        | inl free ↦ inl free
        | inr f_to ↦ elim (cases_free g next.v_in) [
          | inl free ↦ inr free
          | inr g_to ↦
              let web = away T' ends in
              absurd (next.apart (elim f_to [
                | inl f_x ↦ elim g_to [
                  | inl g_x ↦ joined_trans web f x g f_x (joined_sym web g x g_x)
                  | inr g_y ↦
                      let on = x_to_y (reached_out f x next.u_out f_x) (reached_out g y next.v_out g_y) in
                      joined_trans web f x g f_x (joined_trans web x y g on (joined_sym web g y g_y))
                ]
                | inr f_y ↦ elim g_to [
                  | inr g_y ↦ joined_trans web f y g f_y (joined_sym web g y g_y)
                  | inl g_x ↦
                      let on = x_to_y (reached_out g x next.v_out g_x) (reached_out f y next.u_out f_y) in
                      joined_trans web f y g f_y (joined_trans web y x g (joined_sym web x y on) (joined_sym web g x g_x))
                ]
              ]))
        ]
      ]

      smaller : (f' g' : ℕ) × Cuts nodes ends c w t f' g' × (count_below nodes (with_node nodes (away T' ends) f') < count_below nodes K)
      smaller = elim one_free [
        | inl free ↦ (f, g, next, less t f next.w_in next.u_in next.u_out t_third free.0 free.1)
        | inr free ↦ (
          g,
          f,
          record {
            segment = next.segment;
            segment_in = next.segment_in;
            is = next.is;
            w_in = next.w_in;
            u_in = next.v_in;
            v_in = next.u_in;
            u_out = next.v_out;
            v_out = next.u_out;
            apart = λ there. next.apart (joined_sym (away T' ends) g f there);
          },
          less t g next.w_in next.v_in next.v_out t_third free.0 free.1,
        )
      ]

    -- the next segment is firm, or cuts off less
    step : HasFirm nodes ends ⊎ ((t f g : ℕ) × Cuts nodes ends c w t f g × (count_below nodes (with_node nodes (away (c ∷ w ∷ t ∷ []) ends) f) < count_below nodes K))
    step = elim (firm_or_cuts r beside.1) [
      | inl firm ↦ inl (r, beside.1, firm)
      | inr some ↦
          let t = some.0 in
          let turned : Cuts nodes ends c w t some.1 some.2 = elim beside.4 [
            | inl e ↦ subst (λ p. Cuts nodes ends p.0 p.1 t some.1 some.2) e some.3
            | inr e ↦ swapped t some.1 some.2 (subst (λ p. Cuts nodes ends p.0 p.1 t some.1 some.2) e some.3)
          ] in
          let out = smaller t some.1 some.2 turned in
          inr (t, out.0, out.1, out.2, out.3)
    ]
      where
        swapped : (t f g : ℕ) → Cuts nodes ends w c t f g → Cuts nodes ends c w t f g
        swapped t f g is = record {
          segment = is.segment;
          segment_in = is.segment_in;
          is = elim is.is [ inl e ↦ inr e | inr e ↦ inl e ];
          w_in = is.w_in;
          u_in = is.u_in;
          v_in = is.v_in;
          u_out = let out = out_three w c t f is.u_out in three_out c w t f out.1 out.0 out.2;
          v_out = let out = out_three w c t g is.v_out in three_out c w t g out.1 out.0 out.2;
          apart = λ there. is.apart (fewer_avoided (c ∷ w ∷ t ∷ []) (w ∷ c ∷ t ∷ []) ends (λ z h. let out = out_three c w t z h in three_out w c t z out.1 out.0 out.2) f g there);
        }

  search : (size : ℕ) (x y w u v : ℕ) → Cuts nodes ends x y w u v → count_below nodes (with_node nodes (away (x ∷ y ∷ w ∷ []) ends) u) < size → HasFirm nodes ends
  search zero x y w u v cuts small = absurd (omega (arith, small))
  search (suc size) x y w u v cuts small = elim (step x y w u v cuts) [
    | inl firm ↦ firm
    | inr more ↦ search size (c x y w u v cuts) w more.0 more.1 more.2 more.3 (omega (arith, small, more.4))
  ]

  some_firm : 0 < length ends → HasFirm nodes ends
  some_firm some = elim (firm_or_cuts 0 some) [
    | inl firm ↦ (0, some, firm)
    | inr cuts ↦ search (suc (count_below nodes (with_node nodes (away ((ends_at ends 0).0 ∷ (ends_at ends 0).1 ∷ cuts.0 ∷ []) ends) cuts.1)))
        (ends_at ends 0).0 (ends_at ends 0).1 cuts.0 cuts.1 cuts.2 cuts.3 (omega arith)
  ]

pub some_segment_is_firm : SomeSegmentIsFirm
some_segment_is_firm nodes ends ends_in no_loop whole some = some_firm nodes ends ends_in no_loop whole some
