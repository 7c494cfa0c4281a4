-- Webs that have a flat map still have one where segments go, or a node of two darts is passed over.
use Rattle.std.proofs.Common.{◌≡◌, ◌≢◌, ℕ, suc, ◌+◌, ◌-◌, ◌*◌, ◌<◌, ◌≤◌, ◌⊎◌, inl, inr, true, cond, eqb, ltb, List, [], ◌∷◌, ◌++◌, length, refl, sym, ◌∙◌, ap, ap₂, arith, length-append}
use Rattle.std.proofs.lemmas.Bool.{cases_eq, cases_lt, cond-true, cond-false, eq-eqb, ne_eqb, lt-ltb, le-ltb}
use Rattle.std.proofs.lemmas.List.{get_or_at}
use Rattle.xn_model.specs.Graph.{ends_at}
use Rattle.xn_model.specs.Map.{face_step, is_lone, tail_of}
use Rattle.xn_model.specs.Permutation.{Reaches}
use Rattle.xn_model.proofs.Darts.{cases_dart, reverse-even, tail-even, tail-odd}
use Rattle.xn_ring.proofs.Orbits.{source_of}
use Rattle.xn_genus.proofs.Counts.{stays_alone}
use Rattle.xn_surgery.specs.Corners.{Corner, after, node_of, stand_at}
use Rattle.xn_surgery.specs.Insertion.{IsInsertion}
use Rattle.xn_surgery.proofs.Insert.{map_more}
use Rattle.xn_surgery.proofs.InsertFlat.{insertion_flat}
use Rattle.xn_fewer.specs.Flat.{HasFlat}
use Rattle.xn_fewer.proofs.Flats.{IsPicked, picked_flat}
use Rattle.xn_fewer.proofs.Lists.{at_back, at_front, lone_ends}

-- the segments in the middle go
pub dropped_flat : (nodes : ℕ) (pre mid post : List (ℕ × ℕ)) → HasFlat nodes (pre ++ (mid ++ post)) → HasFlat nodes (pre ++ post)
dropped_flat nodes pre mid post has =
    let s = length pre in
    let m = length mid in
    let σ = λ (i : ℕ). cond (ltb i s) i (i + m) in
    let size : length (pre ++ (mid ++ post)) ≡ s + (m + length post) = length-append pre (mid ++ post) ∙ ap (λ n. s + n) (length-append mid post) in
    let less : length (pre ++ post) ≡ s + length post = length-append pre post in
    let cases : (i : ℕ) → ((i < s) × (σ i ≡ i)) ⊎ ((s ≤ i) × (σ i ≡ i + m)) = λ i. elim (cases_lt i s) [
      | inl low ↦ inl (low, cond-true _ _ _ (lt-ltb i s low))
      | inr high ↦ inr (high, cond-false _ _ _ (le-ltb i s high))
    ] in
    picked_flat (pre ++ (mid ++ post)) (pre ++ post) σ (record {
      below = λ i i_in. omega (arith, cases i, size, less, i_in);
      apart = λ i j i_in j_in same. omega (arith, cases i, cases j, same);
      same = λ i i_in. elim (cases i) [
        | inl front ↦ at_front pre post i front.0 ∙ sym (at_front pre (mid ++ post) i front.0) ∙ ap (ends_at (pre ++ (mid ++ post))) (sym front.1)
        | inr back ↦
            let k = i - s in
            let here : i ≡ s + k = omega (arith, back.0) in
            let there : σ i ≡ s + (m + k) = omega (arith, back.0, back.1) in
            ap (ends_at (pre ++ post)) here ∙ at_back pre post k ∙ sym (at_back mid post k) ∙ sym (at_back pre (mid ++ post) (m + k)) ∙ ap (ends_at (pre ++ (mid ++ post))) (sym there)
      ];
    }) nodes has

-- ---- a node with two darts is passed over

module _ (nodes u w x : ℕ) (pre post : List (ℕ × ℕ)) (lone_pre : is_lone pre w ≡ true) (lone_post : is_lone post w ≡ true) (u_not : u ≢ w) (x_not : x ≢ w) (two_ends : u ≢ x)
    (has : HasFlat nodes (pre ++ (u, w) ∷ (w, x) ∷ post)) where
  abbrev ends : List (ℕ × ℕ)
  ends = pre ++ (u, w) ∷ (w, x) ∷ post

  abbrev next : ℕ → ℕ
  next = has.next

  abbrev s : ℕ
  s = length pre

  abbrev n : ℕ
  n = length ends

  -- the darts at u, at w twice, and at x
  abbrev a : ℕ
  a = 2 * s

  abbrev b : ℕ
  b = 2 * s + 1

  abbrev c : ℕ
  c = 2 * (s + 1)

  abbrev d : ℕ
  d = 2 * (s + 1) + 1

  size : n ≡ s + (2 + length post)
  size =
      let two : length ((u, w) ∷ (w, x) ∷ post) ≡ 2 + length post = omega arith in
      length-append pre ((u, w) ∷ (w, x) ∷ post) ∙ ap (λ k. s + k) two

  at_s : ends_at ends s ≡ (u, w)
  at_s = get_or_at pre (u, w) ((w, x) ∷ post) (0, 0) s refl

  at_next : ends_at ends (s + 1) ≡ (w, x)
  at_next = at_back pre ((u, w) ∷ (w, x) ∷ post) 1

  at_post : (k : ℕ) → ends_at ends (s + (2 + k)) ≡ ends_at post k
  at_post k =
      let two : 2 + k ≡ suc (suc k) = omega arith in
      at_back pre ((u, w) ∷ (w, x) ∷ post) (2 + k) ∙ ap (ends_at ((u, w) ∷ (w, x) ∷ post)) two

  -- a segment at w is one of the two
  at_w : (t : ℕ) → t < n → ((ends_at ends t).0 ≡ w) ⊎ ((ends_at ends t).1 ≡ w) → (t ≡ s) ⊎ (t ≡ s + 1)
  at_w t t_in at = elim (cases_lt t s) [
    | inl front ↦
        let never = lone_ends pre w lone_pre t front in
        let same = at_front pre ((u, w) ∷ (w, x) ∷ post) t front in
        absurd (elim at [ inl one ↦ never.0 (ap (λ p. p.0) (sym same) ∙ one) | inr two ↦ never.1 (ap (λ p. p.1) (sym same) ∙ two) ])
    | inr high ↦ elim (cases_eq t s) [
      | inl here ↦ inl here
      | inr past ↦ elim (cases_eq t (s + 1)) [
        | inl second ↦ inr second
        | inr further ↦
            let k = t - (s + 2) in
            let is : t ≡ s + (2 + k) = omega (arith, high, past, further) in
            let never = lone_ends post w lone_post k (omega (arith, size, t_in, is)) in
            let same = ap (ends_at ends) is ∙ at_post k in
            absurd (elim at [ inl one ↦ never.0 (ap (λ p. p.0) (sym same) ∙ one) | inr two ↦ never.1 (ap (λ p. p.1) (sym same) ∙ two) ])
      ]
    ]
  ]

  tail_a : tail_of ends a ≡ u
  tail_a = tail-even ends s ∙ ap (λ p. p.0) at_s

  tail_b : tail_of ends b ≡ w
  tail_b = tail-odd ends s ∙ ap (λ p. p.1) at_s

  tail_c : tail_of ends c ≡ w
  tail_c = tail-even ends (s + 1) ∙ ap (λ p. p.0) at_next

  tail_d : tail_of ends d ≡ x
  tail_d = tail-odd ends (s + 1) ∙ ap (λ p. p.1) at_next

  -- so w has two darts
  only_two : (y : ℕ) → y < 2 * n → tail_of ends y ≡ w → (y ≡ b) ⊎ (y ≡ c)
  only_two y y_in at =
      let t = cases_dart y in
      let t_in : t.0 < n = omega (arith, t.1) in
      elim t.1 [
        | inl even ↦
            let first : (ends_at ends t.0).0 ≡ w = sym (tail-even ends t.0) ∙ ap (tail_of ends) (sym even) ∙ at in
            elim (at_w t.0 t_in (inl first)) [
              | inl here ↦ absurd (u_not (sym (ap (λ p. p.0) at_s) ∙ ap (λ i. (ends_at ends i).0) (sym here) ∙ first))
              | inr there ↦ inr (omega (arith, even, there))
            ]
        | inr odd ↦
            let second : (ends_at ends t.0).1 ≡ w = sym (tail-odd ends t.0) ∙ ap (tail_of ends) (sym odd) ∙ at in
            elim (at_w t.0 t_in (inr second)) [
              | inl here ↦ inl (omega (arith, odd, here))
              | inr there ↦ absurd (x_not (sym (ap (λ p. p.1) at_next) ∙ ap (λ i. (ends_at ends i).1) (sym there) ∙ second))
            ]
      ]

  b_in : b < 2 * n
  b_in = omega (arith, size)

  c_in : c < 2 * n
  c_in = omega (arith, size)

  d_in : d < 2 * n
  d_in = omega (arith, size)

  -- and they follow each other
  turn : next b ≡ c
  turn = elim (only_two (next b) (has.is_map.permutes.below b b_in) (has.is_map.same_node b b_in ∙ tail_b)) [
    | inr there ↦ there
    | inl alone ↦
        let there = has.is_map.one_ring b c b_in c_in (tail_b ∙ sym tail_c) in
        absurd (omega (arith, sym (stays_alone next b alone there.0) ∙ there.1))
  ]

  before : (p : ℕ) × (p < 2 * n) × (next p ≡ a)
  before = source_of (2 * n) next has.is_map.permutes a (omega (arith, size))

  -- a further segment from u to x lies along the two
  abbrev from : Corner
  from = after before.0

  abbrev to : Corner
  to = after d

  abbrev more : List (ℕ × ℕ)
  more = ends ++ (node_of ends from, node_of ends to) ∷ []

  abbrev turns : ℕ → ℕ
  turns y = stand_at from (2 * n) (stand_at to (2 * n + 1) next) y

  from_u : node_of ends from ≡ u
  from_u = sym (has.is_map.same_node before.0 before.1) ∙ ap (tail_of ends) before.2 ∙ tail_a

  comes : IsInsertion nodes ends next from to more turns
  comes = record {
    first = before.1;
    second = d_in;
    two_nodes = λ same. two_ends (sym from_u ∙ same ∙ tail_d);
    ends_more = refl;
    turns = λ y y_in. refl;
  }

  one_face : Reaches (face_step next) (next before.0) (next d)
  one_face = (
    2,
    ap (λ y. face_step next (face_step next y)) before.2 ∙ ap (λ y. face_step next (next y)) (reverse-even s) ∙ ap (face_step next) turn ∙ ap next (reverse-even (s + 1)),
  )

  longer : HasFlat nodes more
  longer = record {
    next = turns;
    is_map = map_more nodes ends more from to next turns has.is_map comes;
    flat = insertion_flat nodes ends more from to next turns has.is_map comes (inl one_face) has.flat;
  }

  -- it stays, and the two go
  abbrev left : List (ℕ × ℕ)
  left = pre ++ (u, x) ∷ post

  left_size : length left ≡ s + (1 + length post)
  left_size =
      let one : length ((u, x) ∷ post) ≡ 1 + length post = omega arith in
      length-append pre ((u, x) ∷ post) ∙ ap (λ k. s + k) one

  more_size : length more ≡ n + 1
  more_size = length-append ends ((node_of ends from, node_of ends to) ∷ [])

  abbrev σ : ℕ → ℕ
  σ i = cond (ltb i s) i (cond (eqb i s) n (i + 1))

  cases : (i : ℕ) → ((i < s) × (σ i ≡ i)) ⊎ (((i ≡ s) × (σ i ≡ n)) ⊎ ((s < i) × (σ i ≡ i + 1)))
  cases i = elim (cases_lt i s) [
    | inl low ↦ inl (low, cond-true _ _ _ (lt-ltb i s low))
    | inr high ↦ elim (cases_eq i s) [
      | inl here ↦ inr (inl (here, cond-false _ _ _ (le-ltb i s high) ∙ cond-true _ _ _ (eq-eqb i s here)))
      | inr past ↦ inr (inr (omega (arith, high, past), cond-false _ _ _ (le-ltb i s high) ∙ cond-false _ _ _ (ne_eqb i s past)))
    ]
  ]

  old : (i : ℕ) → i < n → ends_at more i ≡ ends_at ends i
  old i i_in = at_front ends ((node_of ends from, node_of ends to) ∷ []) i i_in

  picks : IsPicked more left σ
  picks = record {
    below = λ i i_in. omega (arith, cases i, left_size, more_size, size, i_in);
    apart = λ i j i_in j_in same. omega (arith, cases i, cases j, same, left_size, size, i_in, j_in);
    same = λ i i_in. elim (cases i) [
      | inl front ↦
          at_front pre ((u, x) ∷ post) i front.0 ∙ sym (at_front pre ((u, w) ∷ (w, x) ∷ post) i front.0)
          ∙ sym (old i (omega (arith, front.0, size))) ∙ ap (ends_at more) (sym front.1)
      | inr (inl here) ↦
          let pair : (u, x) ≡ (node_of ends from, node_of ends to) = ap₂ (λ y z. (y, z)) (sym from_u) (sym tail_d) in
          ap (ends_at left) here.0 ∙ get_or_at pre (u, x) post (0, 0) s refl ∙ pair
          ∙ sym (get_or_at ends (node_of ends from, node_of ends to) [] (0, 0) n refl) ∙ ap (ends_at more) (sym here.1)
      | inr (inr back) ↦
          let k = i - (s + 1) in
          let is : i ≡ s + (1 + k) = omega (arith, back.0) in
          let one : 1 + k ≡ suc k = omega arith in
          let there : σ i ≡ s + (2 + k) = omega (arith, back.1, is) in
          ap (ends_at left) is ∙ at_back pre ((u, x) ∷ post) (1 + k) ∙ ap (ends_at ((u, x) ∷ post)) one ∙ sym (at_post k)
          ∙ sym (old (s + (2 + k)) (omega (arith, size, left_size, i_in, is))) ∙ ap (ends_at more) (sym there)
    ];
  }

  pub joined_flat : HasFlat nodes left
  joined_flat = picked_flat more left σ picks nodes longer
