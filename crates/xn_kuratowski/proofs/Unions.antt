-- Two flat maps that share a node, or two nodes and a segment between them, make one.
use Rattle.std.proofs.Common.{◌≡◌, ◌≢◌, ℕ, suc, ◌+◌, ◌-◌, ◌*◌, ◌<◌, ◌≤◌, ◌⊎◌, inl, inr, true, cond, eqb, ltb, List, [], ◌∷◌, ◌++◌, length, map, refl, sym, ◌∙◌, ap, ap₂, subst, arith, length-append}
use Rattle.std.proofs.lemmas.Bool.{cases_Bool, cases_eq, cases_lt, cond-true, cond-false, eq-eqb, ne_eqb, lt-ltb, le-ltb}
use Rattle.xn_model.specs.Graph.{EndsIn, ends_at}
use Rattle.xn_model.specs.Map.{MeetsEuler, IsMap, face_step, is_lone, reverse_of, tail_of}
use Rattle.xn_model.specs.Permutation.{IsSplice, Reaches}
use Rattle.xn_model.proofs.Darts.{EndsIn-both, cases_dart, reverse-even, reverse-odd, tail-even, tail-odd, tail-push_even, tail-push_odd}
use Rattle.xn_ring.specs.Parts.{IsBeside}
use Rattle.xn_ring.proofs.Orbits.{source_of}
use Rattle.xn_genus.proofs.Compress.{EndsIn_from, tail_in}
use Rattle.xn_genus.proofs.Kept.{EndsIn_at}
use Rattle.xn_genus.proofs.Lone.{dart_if_not_lone, no_dart_if_lone}
use Rattle.xn_genus.proofs.Nodes.{lone_from}
use Rattle.xn_surgery.specs.Corners.{after}
use Rattle.xn_surgery.specs.Overlay.{IsOverlay}
use Rattle.xn_surgery.proofs.Overlay.{overlay_flat, overlay_map}
use Rattle.xn_surgery.proofs.OverlayComponents.{tail-left, tail-right}
use Rattle.xn_fewer.specs.Flat.{HasFlat, both, called, merged}
use Rattle.xn_fewer.proofs.Flats.{Permutes-exchanged, fewer_flat, inserted_flat, more_flat, named_flat, picked_flat}
use Rattle.xn_fewer.proofs.Lists.{at_back, at_both, at_front, at_last, both-append, both-none, both-same, called-at, called-other, cases_exchanged, exchanged, length-both, lone_ends, map-map, merged-lone, tail_both}
use Rattle.xn_kuratowski.specs.Flat.{ShareOnlyTwo, UnionAtANodeStaysFlat, UnionAtASegmentStaysFlat}
use Rattle.xn_kuratowski.proofs.Contract.{contracted_flat}

-- ---- two rotations beside each other

module _ (n k : ℕ) (f g : ℕ → ℕ) where
  abbrev pub beside : ℕ → ℕ
  beside d = cond (ltb d n) (f d) (n + g (d - n))

  pub is_beside : IsBeside n k f g beside
  is_beside = record {
    low = λ d d_in. cond-true _ _ _ (lt-ltb d n d_in);
    high = λ d d_in.
        let back : n + d - n ≡ d = omega arith in
        cond-false _ _ _ (le-ltb (n + d) n (omega arith)) ∙ ap (λ z. n + g z) back;
  }

  -- the successors of a and of n + b changed
  abbrev pub spliced : ℕ → ℕ → ℕ → ℕ
  spliced a b d = cond (eqb d a) (beside (n + b)) (cond (eqb d (n + b)) (beside a) (beside d))

  pub is_spliced : (a b : ℕ) → a < n → IsSplice (n + k) a (n + b) beside (spliced a b)
  is_spliced a b a_in = record {
    first = cond-true _ _ _ (eq-eqb a a refl);
    second = cond-false _ _ _ (ne_eqb (n + b) a (λ same. omega (arith, same, a_in))) ∙ cond-true _ _ _ (eq-eqb (n + b) (n + b) refl);
    others = λ d d_in not_a not_b. cond-false _ _ _ (ne_eqb d a not_a) ∙ cond-false _ _ _ (ne_eqb d (n + b) not_b);
  }

-- ---- one node shared

module _ (nodes u : ℕ) (first second : List (ℕ × ℕ)) (share : ShareOnlyTwo first second u u) (one : HasFlat nodes first) (two : HasFlat nodes second) where
  abbrev n : ℕ
  n = 2 * length first

  abbrev k : ℕ
  k = 2 * length second

  side_by_side : (is_lone first u ≡ true) ⊎ (is_lone second u ≡ true) → HasFlat nodes (first ++ second)
  side_by_side alone =
      let is : IsOverlay nodes first second one.next two.next (beside n k one.next two.next) = inl (record {
        share = λ v v_in. elim (cases_eq v u) [
          | inl here ↦ elim alone [
            | inl in_first ↦ inl (ap (is_lone first) here ∙ in_first)
            | inr in_second ↦ inr (ap (is_lone second) here ∙ in_second)
          ]
          | inr other ↦ share v other other
        ];
        turns = is_beside n k one.next two.next;
      }) in
      record {
        next = beside n k one.next two.next;
        is_map = overlay_map nodes first second one.next two.next _ one.is_map two.is_map is;
        flat = overlay_flat nodes first second one.next two.next _ one.is_map two.is_map is one.flat two.flat;
      }

  module _ (a b : ℕ) (a_in : a < n) (b_in : b < k) (a_at : tail_of first a ≡ u) (b_at : tail_of second b ≡ u) where
    overlay : IsOverlay nodes first second one.next two.next (spliced n k one.next two.next a b)
    overlay = inr (
      a,
      b,
      record {
        first_in = a_in;
        second_in = b_in;
        one_node = a_at ∙ sym b_at;
        share = λ v v_in other. share v (λ same. other (same ∙ sym a_at)) (λ same. other (same ∙ sym a_at));
        beside = beside n k one.next two.next;
        two_maps = is_beside n k one.next two.next;
        turns = is_spliced n k one.next two.next a b a_in;
      },
    )

    pub joined_map : IsMap nodes (first ++ second) (spliced n k one.next two.next a b)
    joined_map = overlay_map nodes first second one.next two.next _ one.is_map two.is_map overlay

    pub joined_flat : MeetsEuler nodes (first ++ second) (spliced n k one.next two.next a b)
    joined_flat = overlay_flat nodes first second one.next two.next _ one.is_map two.is_map overlay one.flat two.flat

pub union_at_node : UnionAtANodeStaysFlat
union_at_node nodes u first second share one two = elim (cases_Bool (is_lone first u)) [
  | inl alone ↦ side_by_side nodes u first second share one two (inl alone)
  | inr used ↦ elim (cases_Bool (is_lone second u)) [
    | inl alone ↦ side_by_side nodes u first second share one two (inr alone)
    | inr also ↦
        let a = dart_if_not_lone first u used in
        let b = dart_if_not_lone second u also in
        record {
          next = spliced (2 * length first) (2 * length second) one.next two.next a.0 b.0;
          is_map = joined_map nodes u first second share one two a.0 b.0 a.1 b.1 a.2 b.2;
          flat = joined_flat nodes u first second share one two a.0 b.0 a.1 b.1 a.2 b.2;
        }
  ]
]

-- ---- two nodes shared, and a segment between them in both

module _ (nodes u v : ℕ) (first second : List (ℕ × ℕ)) (other : u ≢ v) (share : ShareOnlyTwo first second u v) (one : HasFlat nodes (first ++ (u, v) ∷ []))
    (two : HasFlat nodes (second ++ (u, v) ∷ [])) where
  abbrev left : List (ℕ × ℕ)
  left = first ++ (u, v) ∷ []

  abbrev right : List (ℕ × ℕ)
  right = second ++ (u, v) ∷ []

  abbrev names : ℕ → ℕ
  names = exchanged v nodes

  abbrev moved : List (ℕ × ℕ)
  moved = map (both names) right

  left_size : length left ≡ suc (length first)
  left_size = let size = length-append first ((u, v) ∷ []) in omega (arith, size)

  right_size : length right ≡ suc (length second)
  right_size = let size = length-append second ((u, v) ∷ []) in omega (arith, size)

  moved_size : length moved ≡ suc (length second)
  moved_size = length-both names right ∙ right_size

  u_in : u < nodes
  u_in = let low = tail_in nodes left one.is_map.ends_in (2 * length first) (omega (arith, left_size)) in omega (arith, low, tail-push_even first (u, v))

  v_in : v < nodes
  v_in = let low = tail_in nodes left one.is_map.ends_in (2 * length first + 1) (omega (arith, left_size)) in omega (arith, low, tail-push_odd first (u, v))

  wide_left : HasFlat (suc nodes) left
  wide_left = more_flat nodes left one

  wide_right : HasFlat (suc nodes) moved
  wide_right = named_flat (suc nodes) right names (Permutes-exchanged (suc nodes) v nodes (omega (arith, v_in)) (omega arith)) (more_flat nodes right two)

  -- a node that is lone in a list is lone with the segment too, unless it is one of its ends
  lone_more : (ends : List (ℕ × ℕ)) (w : ℕ) → w ≢ u → w ≢ v → is_lone ends w ≡ true → is_lone (ends ++ (u, v) ∷ []) w ≡ true
  lone_more ends w not_u not_v alone = lone_from (ends ++ (u, v) ∷ []) w (λ d d_in met.
      let c = cases_dart d in
      let size = length-append ends ((u, v) ∷ []) in
      elim (cases_lt c.0 (length ends)) [
        | inl low ↦
            let never = lone_ends ends w alone c.0 low in
            let e = at_front ends ((u, v) ∷ []) c.0 low in
            elim c.1 [
              | inl even ↦ never.0 (ap (λ p. p.0) (sym e) ∙ sym (tail-even (ends ++ (u, v) ∷ []) c.0) ∙ ap (tail_of (ends ++ (u, v) ∷ [])) (sym even) ∙ met)
              | inr odd ↦ never.1 (ap (λ p. p.1) (sym e) ∙ sym (tail-odd (ends ++ (u, v) ∷ []) c.0) ∙ ap (tail_of (ends ++ (u, v) ∷ [])) (sym odd) ∙ met)
            ]
        | inr high ↦
            let here : c.0 ≡ length ends = omega (arith, c.1, d_in, size, high) in
            let e : ends_at (ends ++ (u, v) ∷ []) c.0 ≡ (u, v) = ap (ends_at (ends ++ (u, v) ∷ [])) here ∙ at_last ends (u, v) in
            elim c.1 [
              | inl even ↦ not_u (sym (ap (λ p. p.0) (sym e) ∙ sym (tail-even (ends ++ (u, v) ∷ []) c.0) ∙ ap (tail_of (ends ++ (u, v) ∷ [])) (sym even) ∙ met))
              | inr odd ↦ not_v (sym (ap (λ p. p.1) (sym e) ∙ sym (tail-odd (ends ++ (u, v) ∷ []) c.0) ∙ ap (tail_of (ends ++ (u, v) ∷ [])) (sym odd) ∙ met))
            ]
      ])

  -- and under its new name
  lone_named : (w : ℕ) → ((t : ℕ) → t < nodes → names t ≡ w → is_lone right t ≡ true) → is_lone moved w ≡ true
  lone_named w all = lone_from moved w (λ d d_in met.
      let d_old : d < 2 * length right = omega (arith, d_in, length-both names right) in
      let t = tail_of right d in
      let t_in = tail_in nodes right two.is_map.ends_in d d_old in
      no_dart_if_lone right t (all t t_in (sym (tail_both names right d d_old) ∙ met)) d d_old refl)

  share_one : ShareOnlyTwo left moved u u
  share_one w not_u again = elim (cases_eq w nodes) [
    | inl new ↦ inl (lone_from left w (λ d d_in met. let low = tail_in nodes left one.is_map.ends_in d d_in in omega (arith, low, met, new)))
    | inr old ↦ elim (cases_eq w v) [
      | inl at_v ↦ inr (lone_named w (λ t t_in named. absurd (omega (arith, t_in, named, at_v, cases_exchanged v nodes t, old))))
      | inr not_v ↦ elim (share w not_u not_v) [
        | inl in_first ↦ inl (lone_more first w not_u not_v in_first)
        | inr in_second ↦ inr (lone_named w (λ t t_in named.
            let same : w ≡ t = omega (arith, t_in, named, not_v, old, cases_exchanged v nodes t) in
            subst (λ z. is_lone right z ≡ true) same (lone_more second w not_u not_v in_second)))
      ]
    ]
  ]

  abbrev darts : ℕ
  darts = 2 * length left

  abbrev further : ℕ
  further = 2 * length moved

  -- the darts of the segment
  abbrev p : ℕ
  p = 2 * length first

  abbrev q : ℕ
  q = 2 * length second

  p_in : p < darts
  p_in = omega (arith, left_size)

  q_in : q < further
  q_in = omega (arith, moved_size)

  moved_last : ends_at moved (length second) ≡ (u, nodes)
  moved_last =
      let u_is : names u ≡ u = omega (arith, cases_exchanged v nodes u, other, u_in) in
      let v_is : names v ≡ nodes = omega (arith, cases_exchanged v nodes v) in
      at_both names right (length second) (omega (arith, right_size)) ∙ ap (both names) (at_last second (u, v)) ∙ ap₂ (λ a b. (a, b)) u_is v_is

  tail_q : tail_of moved q ≡ u
  tail_q = tail-even moved (length second) ∙ ap (λ z. z.0) moved_last

  tail_q' : tail_of moved (q + 1) ≡ nodes
  tail_q' = tail-odd moved (length second) ∙ ap (λ z. z.1) moved_last

  to_q : (b : ℕ) × (b < further) × (wide_right.next b ≡ q)
  to_q = source_of further wide_right.next wide_right.is_map.permutes q q_in

  to_q_at : tail_of moved to_q.0 ≡ u
  to_q_at = sym (wide_right.is_map.same_node to_q.0 to_q.1) ∙ ap (tail_of moved) to_q.2 ∙ tail_q

  abbrev turn : ℕ → ℕ
  turn = spliced darts further wide_left.next wide_right.next p to_q.0

  abbrev web : List (ℕ × ℕ)
  web = left ++ moved

  web_map : IsMap (suc nodes) web turn
  web_map = joined_map (suc nodes) u left moved share_one wide_left wide_right p to_q.0 p_in to_q.1 (tail-push_even first (u, v)) to_q_at

  web_flat : MeetsEuler (suc nodes) web turn
  web_flat = joined_flat (suc nodes) u left moved share_one wide_left wide_right p to_q.0 p_in to_q.1 (tail-push_even first (u, v)) to_q_at

  web_size : length web ≡ length left + length moved
  web_size = length-append left moved

  turn_p : turn p ≡ darts + q
  turn_p = (is_spliced darts further wide_left.next wide_right.next p to_q.0 p_in).first ∙ (is_beside darts further wide_left.next wide_right.next).high to_q.0 to_q.1 ∙ ap (λ z. darts + z) to_q.2

  far_reverse : reverse_of (darts + q) ≡ darts + (q + 1)
  far_reverse =
      let s = length left + length second in
      let even : darts + q ≡ 2 * s = omega arith in
      let odd : darts + (q + 1) ≡ 2 * s + 1 = omega arith in
      ap reverse_of even ∙ reverse-even s ∙ sym odd

  p'_in : p + 1 < 2 * length web
  p'_in = omega (arith, left_size, web_size)

  q'_in : darts + (q + 1) < 2 * length web
  q'_in = omega (arith, moved_size, web_size)

  to_p' : (c : ℕ) × (c < 2 * length web) × (turn c ≡ p + 1)
  to_p' = source_of (2 * length web) turn web_map.permutes (p + 1) p'_in

  tail_p' : tail_of web to_p'.0 ≡ v
  tail_p' =
      sym (web_map.same_node to_p'.0 to_p'.1) ∙ ap (tail_of web) to_p'.2 ∙ tail-left left moved (p + 1) (omega (arith, left_size)) ∙ tail-push_odd first (u, v)

  tail_far : tail_of web (darts + (q + 1)) ≡ nodes
  tail_far = tail-right left moved (q + 1) ∙ tail_q'

  face : Reaches (face_step turn) (turn to_p'.0) (turn (darts + (q + 1)))
  face = (
    2,
    ap (λ z. face_step turn (face_step turn z)) to_p'.2 ∙ ap (λ z. face_step turn (turn z)) (reverse-odd (length first)) ∙ ap (face_step turn) turn_p ∙ ap turn far_reverse,
  )

  joined_ends : HasFlat (suc nodes) (merged v nodes web)
  joined_ends =
      contracted_flat (suc nodes) v nodes web (λ same. omega (arith, same, v_in))
      (inserted_flat (suc nodes) web turn (after to_p'.0) (after (darts + (q + 1))) v nodes web_map web_flat to_p'.1 q'_in tail_p' tail_far (λ same. omega (arith, same, v_in)) (inl face))

  back_is : merged v nodes web ≡ left ++ right
  back_is =
      let left_lone : is_lone left nodes ≡ true = lone_from left nodes (λ d d_in met. let low = tail_in nodes left one.is_map.ends_in d d_in in omega (arith, low, met)) in
      let each : (t : ℕ) → t < nodes → called v nodes (names t) ≡ t = λ t t_in. elim (cases_eq t v) [
        | inl at_v ↦ called-at v nodes (names t) (omega (arith, at_v, cases_exchanged v nodes t)) ∙ sym at_v
        | inr not_v ↦
            let same : names t ≡ t = omega (arith, not_v, t_in, cases_exchanged v nodes t) in
            called-other v nodes (names t) (λ e. omega (arith, e, same, t_in)) ∙ same
      ] in
      both-append (called v nodes) left moved
      ∙ ap₂ (λ a b. a ++ b) (merged-lone v nodes left left_lone)
      (map-map names (called v nodes) right
      ∙ both-same (λ t. called v nodes (names t)) (λ t. t) right (λ s s_in. let low = EndsIn_at nodes right two.is_map.ends_in s s_in in (each _ low.0, each _ low.1))
      ∙ both-none right)

  without_both : HasFlat (suc nodes) (first ++ second)
  without_both =
      let m = length first in
      let σ = λ (i : ℕ). cond (ltb i m) i (i + 1) in
      let cases : (i : ℕ) → ((i < m) × (σ i ≡ i)) ⊎ ((m ≤ i) × (σ i ≡ i + 1)) = λ i. elim (cases_lt i m) [
        | inl low ↦ inl (low, cond-true _ _ _ (lt-ltb i m low))
        | inr high ↦ inr (high, cond-false _ _ _ (le-ltb i m high))
      ] in
      let size = length-append first second in
      let whole = length-append left right in
      picked_flat (left ++ right) (first ++ second) σ (record {
        below = λ i i_in. omega (arith, i_in, size, whole, left_size, right_size, cases i);
        apart = λ i j i_in j_in same. omega (arith, same, cases i, cases j);
        same = λ i i_in. elim (cases i) [
          | inl low ↦
              at_front first second i low.0 ∙ sym (at_front first ((u, v) ∷ []) i low.0) ∙ sym (at_front left right i (omega (arith, low.0, left_size)))
              ∙ ap (ends_at (left ++ right)) (sym low.1)
          | inr high ↦
              let j = i - m in
              let is : i ≡ m + j = omega (arith, high.0) in
              let j_in : j < length second = omega (arith, i_in, size, high.0) in
              let there : σ i ≡ length left + j = omega (arith, high.0, high.1, left_size) in
              ap (ends_at (first ++ second)) is ∙ at_back first second j ∙ sym (at_front second ((u, v) ∷ []) j j_in) ∙ sym (at_back left right j)
              ∙ ap (ends_at (left ++ right)) (sym there)
        ];
      }) (suc nodes) (subst (HasFlat (suc nodes)) back_is joined_ends)

  ends_in_front : (ends : List (ℕ × ℕ)) → EndsIn nodes (ends ++ (u, v) ∷ []) → EndsIn nodes ends
  ends_in_front ends ends_in = EndsIn_from nodes ends (λ s s_in.
      let size = length-append ends ((u, v) ∷ []) in
      let P : ℕ × ℕ → Type 0 = λ e. (e.0 < nodes) × (e.1 < nodes) in
      subst P (at_front ends ((u, v) ∷ []) s s_in) (EndsIn_at nodes (ends ++ (u, v) ∷ []) ends_in s (omega (arith, s_in, size))))

  both_flat : HasFlat nodes (first ++ second)
  both_flat = fewer_flat nodes (first ++ second) (EndsIn-both nodes first second (ends_in_front first one.is_map.ends_in) (ends_in_front second two.is_map.ends_in)) without_both

pub union_at_segment : UnionAtASegmentStaysFlat
union_at_segment nodes u v first second other share one two = both_flat nodes u v first second other share one two
