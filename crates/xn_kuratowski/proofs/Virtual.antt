-- A segment that another web stands for: a minor of a web with it is a minor of the two webs together.
use Rattle.std.proofs.Common.{◌≡◌, ◌≢◌, ℕ, ◌+◌, ◌<◌, ◌⊎◌, inl, inr, Bool, true, false, ◌&&◌, cond, eqb, ltb, List, [], ◌∷◌, ◌++◌, length, refl, sym, ◌∙◌, ap, subst, arith, length-append}
use Rattle.std.proofs.lemmas.Bool.{and_from, and_parts, both_ways, cases_Bool, cases_eq, cond-true, cond-false, lt-ltb, ltb-true, or_from, or_left, eq-eqb, ne_eqb, false_from_ne_true}
use Rattle.xn_model.specs.Graph.{EndsIn, ends_at}
use Rattle.xn_model.specs.Lists.{has}
use Rattle.xn_model.specs.Map.{Joined, is_lone}
use Rattle.xn_model.proofs.ComponentWalks.{joined_sym, joined_trans}
use Rattle.xn_genus.proofs.Kept.{EndsIn_at}
use Rattle.xn_surgery.proofs.InsertFlat.{lone_apart}
use Rattle.xn_fewer.proofs.Lists.{at_back, at_front, lone_ends}
use Rattle.xn_fewer.proofs.Walks.{filter_to, joined_closed, joined_ends, joined_over, joined_same, joined_within, walk_leaves}
use Rattle.xn_kuratowski.specs.Flat.{ShareOnlyTwo}
use Rattle.xn_kuratowski.specs.Minor.{HasMinor, IsMinor, inside, is_inside}
use Rattle.xn_kuratowski.specs.Reduction.{away, is_clear}
use Rattle.xn_kuratowski.proofs.Aways.{EndsIn-away, avoided_alone, joined_away, with_from, with_node, with_to}
use Rattle.xn_kuratowski.proofs.Choices.{split_place}
use Rattle.xn_kuratowski.proofs.MinorSteps.{MinorsWithAVirtualSegment}
use Rattle.xn_kuratowski.proofs.Minors.{has_minor_over, is_within, joined_inside, minor_over}

module _ (nodes u v : ℕ) (first second : List (ℕ × ℕ)) (first_in : EndsIn nodes first) (second_in : EndsIn nodes second) (u_in : u < nodes) (v_in : v < nodes) (other : u ≢ v)
    (share : ShareOnlyTwo first second u v) (there : Joined second u v) where
  abbrev more : List (ℕ × ℕ)
  more = first ++ second

  abbrev old : List (ℕ × ℕ)
  old = first ++ (u, v) ∷ []

  abbrev short : List (ℕ × ℕ)
  short = away (v ∷ []) second

  short_in : EndsIn nodes short
  short_in = EndsIn-away nodes (v ∷ []) second second_in

  -- the nodes that u is joined to away from v
  abbrev D : ℕ → Bool
  D w = ltb w nodes && with_node nodes short u w

  D_to : (w : ℕ) → D w ≡ true → (w < nodes) × Joined short u w
  D_to w h =
      let two : (ltb w nodes ≡ true) × (with_node nodes short u w ≡ true) = and_parts _ _ h in
      let w_in = ltb-true _ _ two.0 in
      (w_in, with_to nodes short short_in u w u_in w_in two.1)

  D_from : (w : ℕ) → w < nodes → Joined short u w → D w ≡ true
  D_from w w_in joined = and_from _ _ (lt-ltb w nodes w_in) (with_from nodes short short_in u w joined)

  v_avoided : has (v ∷ []) v ≡ true
  v_avoided = or_left (eqb v v) false (eq-eqb v v refl)

  D_v : D v ≡ false
  D_v = false_from_ne_true _ (λ h. avoided_alone (v ∷ []) second u v v_avoided other (D_to v h).1)

  D_u : D u ≡ true
  D_u = D_from u u_in ([], refl)

  not_v : (w : ℕ) → D w ≡ true → w ≢ v
  not_v w h same = both_ways _ D_v (ap D (sym same) ∙ h)

  v_out : (w : ℕ) → w ≢ v → has (v ∷ []) w ≡ false
  v_out w not_at = or_from (eqb v w) false (ne_eqb v w (λ same. not_at (sym same))) refl

  -- a segment of the second web from one of them to v
  to_v : (s : ℕ) × (s < length second) × (c : ℕ) × (D c ≡ true) × ((ends_at second s ≡ (c, v)) ⊎ (ends_at second s ≡ (v, c)))
  to_v =
      let out = walk_leaves second D u v there D_u D_v in
      let c = out.2 in
      let z = out.3 in
      elim (cases_eq z v) [
        | inl at_v ↦ (out.0, out.1, c, out.4, elim out.6 [ inl e ↦ inl (e ∙ ap (λ t. (c, t)) at_v) | inr e ↦ inr (e ∙ ap (λ t. (t, c)) at_v) ])
        | inr not_at ↦
            let low = EndsIn_at nodes second second_in out.0 out.1 in
            let c_out = v_out c (not_v c out.4) in
            let z_out = v_out z not_at in
            let on : Joined short c z = elim out.6 [
              | inl e ↦
                  let P : ℕ × ℕ → Type 0 = λ p. Joined short p.0 p.1 in
                  subst P e (joined_away (v ∷ []) second out.0 out.1 (ap (λ p. has (v ∷ []) p.0) e ∙ c_out) (ap (λ p. has (v ∷ []) p.1) e ∙ z_out))
              | inr e ↦
                  let P : ℕ × ℕ → Type 0 = λ p. Joined short p.1 p.0 in
                  subst P e (joined_sym short _ _ (joined_away (v ∷ []) second out.0 out.1 (ap (λ p. has (v ∷ []) p.0) e ∙ z_out) (ap (λ p. has (v ∷ []) p.1) e ∙ c_out)))
            ] in
            let z_in : z < nodes = elim out.6 [ inl e ↦ subst (λ t. t < nodes) (ap (λ p. p.1) e) low.1 | inr e ↦ subst (λ t. t < nodes) (ap (λ p. p.0) e) low.0 ] in
            absurd (both_ways _ out.5 (D_from z z_in (joined_trans short u c z (D_to c out.4).1 on)))
      ]

  -- of them, only u is an end of the first web
  D_first : (w : ℕ) → D w ≡ true → is_lone first w ≡ false → w ≡ u
  D_first w h used = elim (cases_eq w u) [
    | inl same ↦ same
    | inr not_u ↦ elim (share w not_u (not_v w h)) [
      | inl alone ↦ absurd (both_ways _ used alone)
      | inr alone ↦ absurd (lone_apart second w u alone not_u (joined_sym second u w (longer u w (D_to w h).1)))
    ]
  ]
    where
      longer : (a b : ℕ) → Joined short a b → Joined second a b
      longer a b joined = joined_within short second (λ s s_in.
          let found = filter_to (is_clear (v ∷ [])) second s s_in in
          let P : ℕ × ℕ → Type 0 = λ p. Joined second p.0 p.1 in
          subst P (sym found.2) (joined_ends second found.0 found.1)) a b joined

  first_used : (s : ℕ) → s < length first → (is_lone first (ends_at first s).0 ≡ false) × (is_lone first (ends_at first s).1 ≡ false)
  first_used s s_in = (
    false_from_ne_true _ (λ alone. (lone_ends first _ alone s s_in).0 refl),
    false_from_ne_true _ (λ alone. (lone_ends first _ alone s s_in).1 refl),
  )

  module _ (class : ℕ → ℕ) where
    abbrev new : ℕ → ℕ
    new w = cond (D w) (class u) (class w)

    new_D : (w : ℕ) → D w ≡ true → new w ≡ class u
    new_D w h = cond-true _ _ _ h

    new_other : (w : ℕ) → D w ≡ false → new w ≡ class w
    new_other w h = cond-false _ _ _ h

    new_used : (w : ℕ) → is_lone first w ≡ false → new w ≡ class w
    new_used w used = elim (cases_Bool (D w)) [
      | inl h ↦ new_D w h ∙ ap class (sym (D_first w h used))
      | inr h ↦ new_other w h
    ]

    new_v : new v ≡ class v
    new_v = new_other v D_v

    in_first : (s : ℕ) → s < length first → (s < length more) × (ends_at more s ≡ ends_at first s)
    in_first s s_in = (omega (arith, s_in, length-append first second), at_front first second s s_in)

    in_second : (s : ℕ) → s < length second → (length first + s < length more) × (ends_at more (length first + s) ≡ ends_at second s)
    in_second s s_in = (omega (arith, s_in, length-append first second), at_back first second s)

    -- within the class of u they are joined to it
    to_D : (i w : ℕ) → class u ≡ i → D w ≡ true → Joined (inside new i more) u w
    to_D i w at_i h = joined_closed short (inside new i more) (λ z. Joined short u z)
        (λ s s_in at. let on = joined_ends short s s_in in let far = joined_trans short u _ _ at on in (far, segment s s_in at far))
        (λ s s_in at. let on = joined_ends short s s_in in let near = joined_trans short u _ _ at (joined_sym short _ _ on) in (near, segment s s_in near at))
        u w (D_to w h).1 ([], refl)
      where
        segment : (s : ℕ) → s < length short → Joined short u (ends_at short s).0 → Joined short u (ends_at short s).1 → Joined (inside new i more) (ends_at short s).0 (ends_at short s).1
        segment s s_in one two =
            let found = filter_to (is_clear (v ∷ [])) second s s_in in
            let t = found.0 in
            let low = EndsIn_at nodes second second_in t found.1 in
            let A : ℕ → Type 0 = λ z. Joined short u z in
            let place = in_second t found.1 in
            let first_at : new (ends_at more (length first + t)).0 ≡ i =
            ap (λ p. new p.0) place.1 ∙ new_D _ (D_from _ low.0 (subst A (ap (λ p. p.0) found.2) one)) ∙ at_i in
            let second_at : new (ends_at more (length first + t)).1 ≡ i =
            ap (λ p. new p.1) place.1 ∙ new_D _ (D_from _ low.1 (subst A (ap (λ p. p.1) found.2) two)) ∙ at_i in
            let P : ℕ × ℕ → Type 0 = λ p. Joined (inside new i more) p.0 p.1 in
            subst P (place.1 ∙ sym found.2) (joined_inside more new i (length first + t) place.0 first_at second_at)

    -- and v to u, where it is of the class
    u_to_v : (i : ℕ) → class u ≡ i → class v ≡ i → Joined (inside new i more) u v
    u_to_v i at_u at_v =
        let c = to_v.2 in
        let place = in_second to_v.0 to_v.1 in
        let t = length first + to_v.0 in
        let web = inside new i more in
        let c_new : new c ≡ i = new_D c to_v.3 ∙ at_u in
        let v_new : new v ≡ i = new_v ∙ at_v in
        joined_trans web u c v (to_D i c at_u to_v.3) (elim to_v.4 [
          | inl e ↦
              let P : ℕ × ℕ → Type 0 = λ p. Joined web p.0 p.1 in
              subst P (place.1 ∙ e) (joined_inside more new i t place.0 (ap (λ p. new p.0) (place.1 ∙ e) ∙ c_new) (ap (λ p. new p.1) (place.1 ∙ e) ∙ v_new))
          | inr e ↦
              let P : ℕ × ℕ → Type 0 = λ p. Joined web p.1 p.0 in
              subst P (place.1 ∙ e) (joined_sym web _ _ (joined_inside more new i t place.0 (ap (λ p. new p.0) (place.1 ∙ e) ∙ v_new) (ap (λ p. new p.1) (place.1 ∙ e) ∙ c_new)))
        ])

    -- the places of a node of the old web in the new one
    abbrev Place : ℕ → ℕ → ℕ → Type 0
    Place i a b = (class a ≡ i) × ((b ≡ a) ⊎ ((a ≡ u) × (D b ≡ true)))

    one_place : (i a b c : ℕ) → Place i a b → Place i a c → Joined (inside new i more) b c
    one_place i a b c one two =
        let web = inside new i more in
        let from_u : (w : ℕ) → a ≡ u → (w ≡ a) ⊎ ((a ≡ u) × (D w ≡ true)) → Joined web u w = λ w is_u which. elim which [
          | inl same ↦ joined_same web u w (sym (same ∙ is_u))
          | inr in_D ↦ to_D i w (ap class (sym is_u) ∙ one.0) in_D.1
        ] in
        let by_u : a ≡ u → Joined web b c = λ is_u. joined_trans web b u c (joined_sym web u b (from_u b is_u one.1)) (from_u c is_u two.1) in
        elim one.1 [
          | inr b_in ↦ by_u b_in.0
          | inl b_is ↦ elim two.1 [
            | inr c_in ↦ by_u c_in.0
            | inl c_is ↦ joined_same web b c (b_is ∙ sym c_is)
          ]
        ]

    segment_places : (i s : ℕ) → s < length (inside class i old) →
        (a : ℕ) × (b : ℕ) × Place i (ends_at (inside class i old) s).0 a × Place i (ends_at (inside class i old) s).1 b × Joined (inside new i more) a b
    segment_places i s s_in =
        let found = filter_to (is_inside class i) old s s_in in
        let within = is_within class i _ found.3 in
        let web = inside new i more in
        let Q : ℕ × ℕ → Type 0 = λ p. (a : ℕ) × (b : ℕ) × Place i p.0 a × Place i p.1 b × Joined web a b in
        subst Q (sym found.2) (elim (split_place first ((u, v) ∷ []) found.0 found.1) [
          | inl front ↦
              let place = in_first found.0 front.0 in
              let used = first_used found.0 front.0 in
              let e = front.1 ∙ sym place.1 in
              let first_at : new (ends_at more found.0).0 ≡ i = ap (λ p. new p.0) place.1 ∙ new_used _ used.0 ∙ ap (λ p. class p.0) (sym front.1) ∙ within.0 in
              let second_at : new (ends_at more found.0).1 ≡ i = ap (λ p. new p.1) place.1 ∙ new_used _ used.1 ∙ ap (λ p. class p.1) (sym front.1) ∙ within.1 in
              let P : ℕ × ℕ → Type 0 = λ p. Joined web p.0 p.1 in
              ((ends_at old found.0).0, (ends_at old found.0).1, (within.0, inl refl), (within.1, inl refl), subst P (sym e) (joined_inside more new i found.0 place.0 first_at second_at))
          | inr end ↦
              let zero_place : end.0 ≡ 0 = omega (arith, end.1) in
              let e : ends_at old found.0 ≡ (u, v) = end.2 ∙ ap (ends_at ((u, v) ∷ [])) zero_place in
              subst Q (sym e) (
                u,
                v,
                (ap (λ p. class p.0) (sym e) ∙ within.0, inl refl),
                (ap (λ p. class p.1) (sym e) ∙ within.1, inl refl),
                u_to_v i (ap (λ p. class p.0) (sym e) ∙ within.0) (ap (λ p. class p.1) (sym e) ∙ within.1),
              )
        ])

    -- a node of a class has an old one whose place it is
    old_of : (i w : ℕ) → new w ≡ i → (a : ℕ) × Place i a w
    old_of i w at_i = elim (cases_Bool (D w)) [
      | inl h ↦ (u, (sym (new_D w h) ∙ at_i, inr (refl, h)))
      | inr h ↦ (w, (sym (new_other w h) ∙ at_i, inl refl))
    ]

    virtual_minor : (count : ℕ) (pairs : List (ℕ × ℕ)) → IsMinor old count pairs class → IsMinor more count pairs new
    virtual_minor count pairs is = minor_over old more count pairs class new
        (λ i w z i_in at_w at_z.
        let a = old_of i w at_w in
        let b = old_of i z at_z in
        joined_over (Place i) (inside class i old) (inside new i more) (one_place i) (segment_places i) a.0 b.0 w z (is.joined i a.0 b.0 i_in a.1.0 b.1.0) a.1 b.1)
        (λ s s_in. elim (split_place first ((u, v) ∷ []) s s_in) [
          | inl front ↦
              let place = in_first s front.0 in
              let used = first_used s front.0 in
              (s, place.0, inl (ap (λ p. new p.0) place.1 ∙ new_used _ used.0 ∙ ap (λ p. class p.0) (sym front.1), ap (λ p. new p.1) place.1 ∙ new_used _ used.1 ∙ ap (λ p. class p.1) (sym front.1)))
          | inr end ↦
              let zero_place : end.0 ≡ 0 = omega (arith, end.1) in
              let e : ends_at old s ≡ (u, v) = end.2 ∙ ap (ends_at ((u, v) ∷ [])) zero_place in
              let place = in_second to_v.0 to_v.1 in
              let c_new = new_D to_v.2 to_v.3 in (
                length first + to_v.0,
                place.0,
                elim to_v.4 [
                  | inl f ↦ inl (ap (λ p. new p.0) (place.1 ∙ f) ∙ c_new ∙ ap (λ p. class p.0) (sym e), ap (λ p. new p.1) (place.1 ∙ f) ∙ new_v ∙ ap (λ p. class p.1) (sym e))
                  | inr f ↦ inr (ap (λ p. new p.0) (place.1 ∙ f) ∙ new_v ∙ ap (λ p. class p.1) (sym e), ap (λ p. new p.1) (place.1 ∙ f) ∙ c_new ∙ ap (λ p. class p.0) (sym e))
                ],
              )
        ]) is

  pub virtual_has : HasMinor old → HasMinor more
  virtual_has has = has_minor_over old more (λ count pairs class is. (new class, virtual_minor class count pairs is)) has

pub minors_with_virtual : MinorsWithAVirtualSegment
minors_with_virtual nodes u v first second first_in second_in u_in v_in other share there has =
    virtual_has nodes u v first second first_in second_in u_in v_in other share there has
