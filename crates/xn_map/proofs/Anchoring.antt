-- Each node still knows one of its darts.
use Rattle.std.proofs.Common.{◌≡◌, ◌≢◌, ℕ, suc, ◌+◌, ◌-◌, ◌*◌, ◌/◌, ◌%◌, ◌<◌, ◌⊎◌, inl, inr, List, [], ◌∷◌, ◌++◌, length, set, take, refl, sym, ◌∙◌, ap, subst, arith, length-append}
use Rattle.std.specs.List.{swap_remove}
use Rattle.std.proofs.lemmas.Bool.{cases_eq, cond-true, cond-false, eq-eqb, ne_eqb}
use Rattle.std.proofs.lemmas.List.{get_or_append_left, get_or-set_same, get_or-set_other, get_or-take, length-set, length-take-le}
use Rattle.xn_model.specs.Graph.{Graph, EndsIn}
use Rattle.xn_model.specs.Lists.{at}
use Rattle.xn_model.specs.Map.{tail_of}
use Rattle.xn_model.proofs.Darts.{tail-push, tail-push_even, tail-push_odd}
use Rattle.xn_graph.specs.Limits.{graph_of}
use Rattle.xn_graph.proofs.Ends.{length-swap_remove}
use Rattle.xn_genus.specs.Deletion.{dart_before}
use Rattle.xn_genus.proofs.Compress.{tail_in}
use Rattle.xn_map.specs.Anchored.{AreAnchors, IsDartOf, OutlastsAt, StaysBehind, dart_renamed}
use Rattle.xn_map.specs.Cutting.{MovesDart}
use Rattle.xn_map.proofs.Removal.{tail_before}

at_set : (xs : List ℕ) (i v j : ℕ) → i < length xs → ((j ≡ i) × (at (set xs i v) j ≡ v)) ⊎ ((j ≢ i) × (at (set xs i v) j ≡ at xs j))
at_set xs i v j i_in = elim (cases_eq j i) [
  | inl here ↦ inl (here, ap (at (set xs i v)) here ∙ get_or-set_same xs i v 0 i_in)
  | inr other ↦ inr (other, get_or-set_other xs i j v 0 other)
]

-- an entry that is a dart of its node serves
serves : (ends : List (ℕ × ℕ)) (t x y : ℕ) → x ≡ y → IsDartOf ends t y → IsDartOf ends t x
serves ends t x y same is = let P : ℕ → Type 0 = λ z. IsDartOf ends t z in subst P (sym same) is

-- the darts below d have been found
pub record FoundBelow (web : Graph) (d : ℕ) (darts : List ℕ) : Type 0 where
  pub each : length darts ≡ web.nodes
  pub there : (e : ℕ) → e < d → IsDartOf web.ends (tail_of web.ends e) (at darts (tail_of web.ends e))

pub found_more : (web : Graph) (d v : ℕ) (darts : List ℕ) → FoundBelow web d darts → d < 2 * length web.ends → v ≡ tail_of web.ends d → v < web.nodes → FoundBelow web (d + 1) (set darts v d)
found_more web d v darts found d_in v_is v_in = record {
  each = length-set darts v d ∙ found.each;
  there = λ e e_in.
      let t = tail_of web.ends e in
      elim (at_set darts v d t (omega (arith, v_in, found.each))) [
        | inl here ↦ serves web.ends t _ d here.1 (d_in, sym v_is ∙ sym here.0)
        | inr other ↦ serves web.ends t _ (at darts t) other.1 (found.there e (below e e_in other.0))
      ];
}
  where
    below : (e : ℕ) → e < d + 1 → tail_of web.ends e ≢ v → e < d
    below e e_in other = elim (cases_eq e d) [
      | inl same ↦ absurd (other (ap (tail_of web.ends) same ∙ sym v_is))
      | inr less ↦ omega (arith, e_in, less)
    ]

-- a node more
pub anchors_more : (web : Graph) (darts : List ℕ) (new : Graph) → AreAnchors web darts → EndsIn web.nodes web.ends → new ≡ graph_of (web.nodes + 1) web.ends → AreAnchors new (darts ++ 0 ∷ [])
anchors_more web darts new anchors ends_in new_is =
    let P : Graph → Type 0 = λ w. AreAnchors w (darts ++ 0 ∷ []) in
    subst P (sym new_is) record {
      each = omega (arith, length-append darts (0 ∷ []), anchors.each);
      there = λ d d_in.
          let t = tail_of web.ends d in
          let low = tail_in web.nodes web.ends ends_in d d_in in
          serves web.ends t _ (at darts t) (get_or_append_left darts (0 ∷ []) 0 t (omega (arith, low, anchors.each))) (anchors.there d d_in);
    }

-- the last node less
pub anchors_less : (web : Graph) (darts : List ℕ) (new : Graph) → AreAnchors web darts → EndsIn (web.nodes - 1) web.ends → web ≡ graph_of (new.nodes + 1) new.ends →
    (left : List ℕ) → left ≡ take (length darts - 1) darts → AreAnchors new left
anchors_less web darts new anchors ends_in web_is left left_is =
    let nodes = ap (λ w. w.nodes) web_is in
    let A : Graph → Type 0 = λ w. AreAnchors w darts in
    let I : Graph → Type 0 = λ w. EndsIn (w.nodes - 1) w.ends in
    let old = subst A web_is anchors in
    let inside = subst I web_is ends_in in
    record {
      each = ap length left_is ∙ length-take-le (length darts - 1) darts (omega arith) ∙ omega (arith, old.each);
      there = λ d d_in.
          let t = tail_of new.ends d in
          let low = tail_in (new.nodes + 1 - 1) new.ends inside d d_in in
          serves new.ends t _ (at darts t) (ap (λ xs. at xs t) left_is ∙ get_or-take (length darts - 1) darts t 0 (omega (arith, low, old.each))) (old.there d d_in);
    }

-- a segment more
pub anchors_longer : (web : Graph) (darts : List ℕ) (s u v : ℕ) (new : Graph) → AreAnchors web darts → s ≡ length web.ends → u < web.nodes → v < web.nodes →
    new ≡ graph_of web.nodes (web.ends ++ (u, v) ∷ []) → AreAnchors new (set (set darts u (2 * s)) v (2 * s + 1))
anchors_longer web darts s u v new anchors s_is u_in v_in new_is =
    let P : Graph → Type 0 = λ w. AreAnchors w (set (set darts u (2 * s)) v (2 * s + 1)) in
    let one = set darts u (2 * s) in
    let more = web.ends ++ (u, v) ∷ [] in
    let size = length-append web.ends ((u, v) ∷ []) in
    let first : tail_of more (2 * s) ≡ u = ap (λ k. tail_of more (2 * k)) s_is ∙ tail-push_even web.ends (u, v) in
    let second : tail_of more (2 * s + 1) ≡ v = ap (λ k. tail_of more (2 * k + 1)) s_is ∙ tail-push_odd web.ends (u, v) in
    let one_size : length one ≡ web.nodes = length-set darts u (2 * s) ∙ anchors.each in
    subst P (sym new_is) record {
      each = length-set one v (2 * s + 1) ∙ one_size;
      there = λ d d_in.
          let t = tail_of more d in
          elim (at_set one v (2 * s + 1) t (omega (arith, v_in, one_size))) [
            | inl at_v ↦ serves more t _ (2 * s + 1) at_v.1 (omega (arith, size, s_is), second ∙ sym at_v.0)
            | inr not_v ↦ elim (at_set darts u (2 * s) t (omega (arith, u_in, anchors.each))) [
              | inl at_u ↦ serves more t _ (2 * s) (not_v.1 ∙ at_u.1) (omega (arith, size, s_is), first ∙ sym at_u.0)
              | inr not_u ↦
                  let old_in : d < 2 * length web.ends = old_dart d d_in not_v.0 not_u.0 first second in
                  let old_tail : t ≡ tail_of web.ends d = tail-push web.ends (u, v) d old_in in
                  let was = anchors.there d old_in in
                  let entry = at darts (tail_of web.ends d) in
                  serves more t _ entry (not_v.1 ∙ not_u.1 ∙ ap (at darts) old_tail)
                  (omega (arith, was.0, size), tail-push web.ends (u, v) entry was.0 ∙ was.1 ∙ sym old_tail)
            ]
          ];
    }
  where
    old_dart : (d : ℕ) → d < 2 * length (web.ends ++ (u, v) ∷ []) → tail_of (web.ends ++ (u, v) ∷ []) d ≢ v → tail_of (web.ends ++ (u, v) ∷ []) d ≢ u →
        tail_of (web.ends ++ (u, v) ∷ []) (2 * s) ≡ u → tail_of (web.ends ++ (u, v) ∷ []) (2 * s + 1) ≡ v → d < 2 * length web.ends
    old_dart d d_in not_v not_u first second =
        let size = length-append web.ends ((u, v) ∷ []) in
        let not_first : d ≢ 2 * s = λ same. not_u (ap (tail_of (web.ends ++ (u, v) ∷ [])) same ∙ first) in
        let not_second : d ≢ 2 * s + 1 = λ same. not_v (ap (tail_of (web.ends ++ (u, v) ∷ [])) same ∙ second) in
        omega (arith, d_in, size, s_is, not_first, not_second)

-- a dart is moved
pub anchors_moved : (web : Graph) (darts : List ℕ) (d u v other : ℕ) (new : Graph) → AreAnchors web darts → d < 2 * length web.ends → u ≡ tail_of web.ends d → u < web.nodes → v < web.nodes →
    StaysBehind web.ends d v other → MovesDart d v web new → AreAnchors new (set (set darts u other) v d)
anchors_moved web darts d u v other new anchors d_in u_is u_in v_in behind move =
    let one = set darts u other in
    let one_size : length one ≡ web.nodes = length-set darts u other ∙ anchors.each in
    let here : tail_of new.ends d ≡ v = move.tails d d_in ∙ cond-true _ _ _ (eq-eqb d d refl) in
    let away : (x : ℕ) → x < 2 * length web.ends → x ≢ d → tail_of new.ends x ≡ tail_of web.ends x = λ x x_in not_d. move.tails x x_in ∙ cond-false _ _ _ (ne_eqb x d not_d) in
    record {
      each = length-set one v d ∙ one_size ∙ sym move.same_nodes;
      there = λ x x_in.
          let t = tail_of new.ends x in
          let x_old : x < 2 * length web.ends = omega (arith, x_in, move.same_length) in
          elim (at_set one v d t (omega (arith, v_in, one_size))) [
            | inl at_v ↦ serves new.ends t _ d at_v.1 (omega (arith, d_in, move.same_length), here ∙ sym at_v.0)
            | inr not_v ↦
                let not_d : x ≢ d = λ same. not_v.0 (ap (tail_of new.ends) same ∙ here) in
                let same_tail : t ≡ tail_of web.ends x = away x x_old not_d in
                elim (at_set darts u other t (omega (arith, u_in, anchors.each))) [
                  | inl at_u ↦
                      let mate : IsDartOf web.ends (tail_of web.ends d) x = (x_old, sym same_tail ∙ at_u.0 ∙ u_is) in
                      elim behind [
                        | inl stays ↦ absurd (not_v.0 (at_u.0 ∙ u_is ∙ stays))
                        | inr rest ↦ elim rest [
                          | inl known ↦
                              serves new.ends t _ other (not_v.1 ∙ at_u.1)
                              (omega (arith, known.0.0, move.same_length), away other known.0.0 known.1 ∙ known.0.1 ∙ sym u_is ∙ sym at_u.0)
                          | inr alone ↦ absurd (not_d (alone x mate))
                        ]
                      ]
                  | inr not_u ↦
                      let was = anchors.there x x_old in
                      let entry = at darts (tail_of web.ends x) in
                      let moves : entry ≢ d = λ same. not_u.0 (same_tail ∙ sym was.1 ∙ ap (tail_of web.ends) same ∙ sym u_is) in
                      serves new.ends t _ entry (not_v.1 ∙ not_u.1 ∙ ap (at darts) same_tail)
                      (omega (arith, was.0, move.same_length), away entry was.0 moves ∙ was.1 ∙ sym same_tail)
                ]
          ];
    }

-- the segment s goes, and the last one has its number
module _ (web new : Graph) (darts : List ℕ) (s last first second : ℕ) (anchors : AreAnchors web darts) (ends_in : EndsIn web.nodes web.ends) (s_in : s < length web.ends) (last_is : suc last ≡ length web.ends)
    (stays_first : OutlastsAt web.ends s (2 * s) first) (stays_second : OutlastsAt web.ends s (2 * s + 1) second) (new_is : new ≡ graph_of web.nodes (swap_remove web.ends s (0, 0)))
    (u v x y : ℕ) (u_is : u ≡ tail_of web.ends (2 * s)) (v_is : v ≡ tail_of web.ends (2 * s + 1)) (x_is : x ≡ tail_of web.ends (2 * last)) (y_is : y ≡ tail_of web.ends (2 * last + 1)) where
  abbrev e : ℕ → ℕ
  e = dart_before s last

  abbrev named : ℕ → ℕ
  named = dart_renamed s last

  left_is : last ≡ length new.ends
  left_is = let less = ap (λ w. length w.ends) new_is ∙ length-swap_remove web.ends s (0, 0) in omega (arith, less, last_is)

  cases_e : (j : ℕ) → ((j / 2 ≡ s) × (e j ≡ 2 * last + j % 2)) ⊎ ((j / 2 ≢ s) × (e j ≡ j))
  cases_e j = elim (cases_eq (j / 2) s) [
    | inl here ↦ inl (here, cond-true _ _ _ (eq-eqb _ _ here))
    | inr other ↦ inr (other, cond-false _ _ _ (ne_eqb _ _ other))
  ]

  cases_named : (o : ℕ) → ((o / 2 ≡ last) × (named o ≡ 2 * s + o % 2)) ⊎ ((o / 2 ≢ last) × (named o ≡ o))
  cases_named o = elim (cases_eq (o / 2) last) [
    | inl here ↦ inl (here, cond-true _ _ _ (eq-eqb _ _ here))
    | inr other ↦ inr (other, cond-false _ _ _ (ne_eqb _ _ other))
  ]

  tail_e : (j : ℕ) → j < 2 * length new.ends → tail_of new.ends j ≡ tail_of web.ends (e j)
  tail_e j j_in = tail_before s web new s_in new_is j j_in ∙ ap (λ k. tail_of web.ends (dart_before s k j)) (sym left_is)

  -- a dart of another segment keeps its node
  keeps : (t o : ℕ) → IsDartOf web.ends t o → o / 2 ≢ s → IsDartOf new.ends t (named o)
  keeps t o is other =
      let low : named o < 2 * length new.ends = omega (arith, cases_named o, is.0, last_is, left_is, other, s_in) in
      let back : e (named o) ≡ o = omega (arith, cases_named o, cases_e (named o), other) in
      (low, tail_e (named o) low ∙ ap (tail_of web.ends) back ∙ is.1)

  e_other : (j : ℕ) → j < 2 * length new.ends → e j / 2 ≢ s
  e_other j j_in same = omega (arith, same, cases_e j, j_in, s_in, last_is, left_is)

  e_in : (j : ℕ) → j < 2 * length new.ends → e j < 2 * length web.ends
  e_in j j_in = omega (arith, cases_e j, j_in, last_is, left_is)

  -- the dart that is known to stay
  known : (d other j : ℕ) → OutlastsAt web.ends s d other → j < 2 * length new.ends → tail_of new.ends j ≡ tail_of web.ends d → IsDartOf new.ends (tail_of new.ends j) (named other)
  known d other j stays j_in same =
      let P : ℕ → Type 0 = λ t. IsDartOf new.ends t (named other) in
      elim stays [
        | inl there ↦ subst P (sym same) (keeps (tail_of web.ends d) other there.0 there.1)
        | inr none ↦ absurd (e_other j j_in (none (e j) (e_in j j_in, sym (tail_e j j_in) ∙ same)))
      ]

  -- the dart of the last segment
  of_last : (k j : ℕ) → k < 2 → j < 2 * length new.ends → s ≢ last → tail_of new.ends j ≡ tail_of web.ends (2 * last + k) → IsDartOf new.ends (tail_of new.ends j) (2 * s + k)
  of_last k j k_in j_in differ same =
      let o = 2 * last + k in
      let is : IsDartOf web.ends (tail_of web.ends o) o = (omega (arith, k_in, last_is), refl) in
      let name : 2 * s + k ≡ named o = omega (arith, cases_named o, k_in) in
      let P : ℕ → Type 0 = λ t. IsDartOf new.ends t (2 * s + k) in
      let other : o / 2 ≢ s = λ h. omega (arith, h, differ, k_in) in
      subst P (sym same) (serves new.ends (tail_of web.ends o) (2 * s + k) (named o) name (keeps (tail_of web.ends o) o is other))

  node_in : (d : ℕ) → d < 2 * length web.ends → tail_of web.ends d < web.nodes
  node_in = tail_in web.nodes web.ends ends_in

  abbrev one : List ℕ
  one = set darts x (2 * s)

  abbrev two : List ℕ
  two = set one y (2 * s + 1)

  abbrev three : List ℕ
  three = set two u (named first)

  one_size : length one ≡ web.nodes
  one_size = length-set darts x (2 * s) ∙ anchors.each

  two_size : length two ≡ web.nodes
  two_size = length-set one y (2 * s + 1) ∙ one_size

  three_size : length three ≡ web.nodes
  three_size = length-set two u (named first) ∙ two_size

  of_half : (o h : ℕ) → o / 2 ≡ h → (o ≡ 2 * h) ⊎ (o ≡ 2 * h + 1)
  of_half o h half = elim (cases_eq o (2 * h)) [
    | inl even ↦ inl even
    | inr odd ↦ inr (omega (arith, half, odd))
  ]

  -- any other node keeps its entry
  others : (j : ℕ) → j < 2 * length new.ends → tail_of new.ends j ≢ v → tail_of new.ends j ≢ u → tail_of new.ends j ≢ y → tail_of new.ends j ≢ x →
      IsDartOf new.ends (tail_of new.ends j) (at darts (tail_of new.ends j))
  others j j_in not_v not_u not_y not_x =
      let t = tail_of new.ends j in
      let same = tail_e j j_in in
      let P : ℕ → Type 0 = λ k. IsDartOf web.ends k (at darts k) in
      let was = subst P (sym same) (anchors.there (e j) (e_in j j_in)) in
      let o = at darts t in
      let not_s : o / 2 ≢ s = λ h. elim (of_half o s h) [
        | inl even ↦ not_u (sym was.1 ∙ ap (tail_of web.ends) even ∙ sym u_is)
        | inr odd ↦ not_v (sym was.1 ∙ ap (tail_of web.ends) odd ∙ sym v_is)
      ] in
      let not_last : o / 2 ≢ last = λ h. elim (of_half o last h) [
        | inl even ↦ not_x (sym was.1 ∙ ap (tail_of web.ends) even ∙ sym x_is)
        | inr odd ↦ not_y (sym was.1 ∙ ap (tail_of web.ends) odd ∙ sym y_is)
      ] in
      let name : o ≡ named o = sym (cond-false _ _ _ (ne_eqb _ _ not_last)) in
      serves new.ends t o (named o) name (keeps t o was not_s)

  pub anchors_shorter : AreAnchors new (set three v (named second))
  anchors_shorter =
      let v_in : v < web.nodes = omega (arith, v_is, node_in (2 * s + 1) (omega (arith, s_in))) in
      let u_in : u < web.nodes = omega (arith, u_is, node_in (2 * s) (omega (arith, s_in))) in
      let y_in : y < web.nodes = omega (arith, y_is, node_in (2 * last + 1) (omega (arith, last_is))) in
      let x_in : x < web.nodes = omega (arith, x_is, node_in (2 * last) (omega (arith, last_is))) in
      record {
        each = length-set three v (named second) ∙ three_size ∙ sym (ap (λ w. w.nodes) new_is);
        there = λ j j_in.
            let t = tail_of new.ends j in
            elim (at_set three v (named second) t (omega (arith, v_in, three_size))) [
              | inl at_v ↦ serves new.ends t _ (named second) at_v.1 (known (2 * s + 1) second j stays_second j_in (at_v.0 ∙ v_is))
              | inr not_v ↦ elim (at_set two u (named first) t (omega (arith, u_in, two_size))) [
                | inl at_u ↦ serves new.ends t _ (named first) (not_v.1 ∙ at_u.1) (known (2 * s) first j stays_first j_in (at_u.0 ∙ u_is))
                | inr not_u ↦ elim (at_set one y (2 * s + 1) t (omega (arith, y_in, one_size))) [
                  | inl at_y ↦
                      let differ : s ≢ last = λ same. not_v.0 (at_y.0 ∙ y_is ∙ ap (λ k. tail_of web.ends (2 * k + 1)) (sym same) ∙ sym v_is) in
                      serves new.ends t _ (2 * s + 1) (not_v.1 ∙ not_u.1 ∙ at_y.1) (of_last 1 j (omega arith) j_in differ (at_y.0 ∙ y_is))
                  | inr not_y ↦ elim (at_set darts x (2 * s) t (omega (arith, x_in, anchors.each))) [
                    | inl at_x ↦
                        let differ : s ≢ last = λ same. not_u.0 (at_x.0 ∙ x_is ∙ ap (λ k. tail_of web.ends (2 * k)) (sym same) ∙ sym u_is) in
                        let even : 2 * s + 0 ≡ 2 * s = omega arith in
                        let D : ℕ → Type 0 = λ k. IsDartOf new.ends t k in
                        let back : 2 * last ≡ 2 * last + 0 = omega arith in
                        serves new.ends t _ (2 * s) (not_v.1 ∙ not_u.1 ∙ not_y.1 ∙ at_x.1)
                        (subst D even (of_last 0 j (omega arith) j_in differ (at_x.0 ∙ x_is ∙ ap (tail_of web.ends) back)))
                    | inr not_x ↦ serves new.ends t _ (at darts t) (not_v.1 ∙ not_u.1 ∙ not_y.1 ∙ not_x.1) (others j j_in not_v.0 not_u.0 not_y.0 not_x.0)
                  ]
                ]
              ]
            ];
      }
