-- A planarised graph is a mesh, and a drawing is loose.
use Rattle.std.proofs.Common.{◌≡◌, ◌≢◌, ℕ, zero, suc, ◌+◌, ◌-◌, ◌*◌, ◌<◌, ◌≤◌, ◌⊎◌, inl, inr, true, eqb, List, [], ◌∷◌, length, map, refl, sym, ◌∙◌, ap, subst, arith}
use Rattle.std.specs.List.{IsDistinct, flat_map}
use Rattle.std.specs.Prelude.{nat_eq}
use Rattle.std.proofs.lemmas.Bool.{cases_eq, cases_order, eq-eqb, eqb-true}
use Rattle.std.proofs.lemmas.List.{length-map}
use Rattle.xn_model.specs.Graph.{Graph, IsGraph, ends_at}
use Rattle.xn_model.specs.Lists.{at, has, position_in}
use Rattle.xn_model.specs.Loose.{IsLoose, dart_count, times_walked}
use Rattle.xn_model.specs.Map.{IsFlat, IsMap, WalksTo, tail_of}
use Rattle.xn_model.specs.Orders.{IsOrders, crossing_count, crossings_of}
use Rattle.xn_model.specs.Permutation.{count_below}
use Rattle.xn_model.specs.Web.{crossing_node, first_segment, segments_of, web_of}
use Rattle.xn_model.proofs.Darts.{cases_dart, tail-even, tail-odd}
use Rattle.xn_ring.proofs.Counting.{count-same, same_tests}
use Rattle.xn_genus.proofs.Kept.{EndsIn_at}
use Rattle.xn_fewer.proofs.Crossings.{IsCross, crossing_at, crossings_apart, node_apart, node_facts, node_turned, not_of_itself}
use Rattle.xn_fewer.proofs.Rising.{Rising, distinct-rising, has-all, rising-from_increasing}
use Rattle.xn_general.specs.Touching.{IsMesh}
use Rattle.xn_track.specs.Track.{passed}
use Rattle.xn_general.specs.Webs.{DrawingsAreLoose, TouchingOrdersGiveDrawings, WebsAreMeshes, walk_in_web}
use Rattle.xn_track.proofs.Blocks.{at_place, blocks_apart, found_at, place, place-first_segment, place-same, place_in, size_of}
use Rattle.xn_track.proofs.Places.{has-at, place_of, positions_apart}
use Rattle.xn_general.proofs.Fours.{four_distinct, listed_has, of_four}
use Rattle.xn_general.proofs.InWeb.{at-map, at_most_once, at_position, count_listed, darts-length, darts_at, straight_from, through-length, through_first, through_last, through_mid, walks_from}
use Rattle.xn_track.proofs.Loose.{crossing_by_count}
use Rattle.xn_track.proofs.Passes.{one_walked, passed-length, passed_at}
use Rattle.xn_track.proofs.Simplify.{all_edges_drawn}
use Rattle.xn_general.proofs.Touch.{meshes_give_drawings}

module _ (g : Graph) (edges : List ℕ) (ord : ℕ → List ℕ) (next : ℕ → ℕ) (is_graph : IsGraph g) (orders : IsOrders g.ends edges ord) (flat : IsFlat (web_of g edges ord) next) where
  abbrev n : ℕ
  n = g.nodes

  abbrev pairs : List (ℕ × ℕ)
  pairs = crossings_of edges ord

  abbrev web : Graph
  web = web_of g edges ord

  abbrev segs : ℕ → List (ℕ × ℕ)
  segs = segments_of g pairs ord

  abbrev F : ℕ → ℕ
  F = first_segment edges ord

  abbrev W : ℕ → List ℕ
  W = walk_in_web edges ord

  abbrev node : ℕ → ℕ → ℕ
  node = crossing_node n pairs

  rise : Rising edges
  rise = rising-from_increasing edges orders.edge_list.rise

  distinct : IsDistinct nat_eq edges
  distinct = distinct-rising edges rise

  edge_in : (e : ℕ) → has edges e ≡ true → e < length g.ends
  edge_in = has-all (λ e. e < length g.ends) edges orders.edge_list.below

  ends_low : (e : ℕ) → has edges e ≡ true → ((ends_at g.ends e).0 < n) × ((ends_at g.ends e).1 < n)
  ends_low e e_in = EndsIn_at n g.ends is_graph.ends_in e (edge_in e e_in)

  mids-length : (e : ℕ) → length (map (node e) (ord e)) ≡ length (ord e)
  mids-length e = length-map (ord e) (node e)

  segs-length : (e : ℕ) → length (segs e) ≡ suc (length (ord e))
  segs-length e = through-length (ends_at g.ends e).0 (map (node e) (ord e)) (ends_at g.ends e).1 ∙ ap suc (mids-length e)

  pub W-length : (e : ℕ) → length (W e) ≡ suc (length (ord e))
  W-length e = darts-length (F e) (length (ord e))

  segs_place : (e : ℕ) → place (size_of segs) edges e ≡ F e
  segs_place e = place-same (size_of segs) (λ x. suc (length (ord x))) edges e (λ x x_in. segs-length x) ∙ place-first_segment ord edges e

  pub W_place : (e : ℕ) → place (size_of W) edges e ≡ F e
  W_place e = place-same (size_of W) (λ x. suc (length (ord x))) edges e (λ x x_in. W-length x) ∙ place-first_segment ord edges e

  pub seg_at : (e i : ℕ) → has edges e ≡ true → i ≤ length (ord e) → (F e + i < length web.ends) × (ends_at web.ends (F e + i) ≡ ends_at (segs e) i)
  seg_at e i e_in i_in =
      let size = segs-length e in
      let p = segs_place e in
      let low = place_in segs edges e i e_in (omega (arith, size, i_in)) in
      (omega (arith, low, p), ap (λ k. ends_at web.ends (k + i)) (sym p) ∙ at_place segs edges e i (0, 0) e_in (omega (arith, size, i_in)))

  pub first_tail : (e : ℕ) → has edges e ≡ true → tail_of web.ends (2 * F e) ≡ (ends_at g.ends e).0
  first_tail e e_in =
      let z : F e + 0 ≡ F e = omega arith in
      tail-even web.ends (F e) ∙ ap (λ k. (ends_at web.ends k).0) (sym z) ∙ ap (λ p. p.0) (seg_at e 0 e_in (omega arith)).1
      ∙ through_first (ends_at g.ends e).0 (map (node e) (ord e)) (ends_at g.ends e).1

  pub last_tail : (e : ℕ) → has edges e ≡ true → tail_of web.ends (2 * (F e + length (ord e)) + 1) ≡ (ends_at g.ends e).1
  last_tail e e_in =
      tail-odd web.ends (F e + length (ord e)) ∙ ap (λ p. p.1) (seg_at e (length (ord e)) e_in (omega arith)).1
      ∙ ap (λ k. (ends_at (segs e) k).1) (sym (mids-length e)) ∙ through_last (ends_at g.ends e).0 (map (node e) (ord e)) (ends_at g.ends e).1

  -- the two darts at the crossing i of e
  pub seam_tails : (e i : ℕ) → has edges e ≡ true → i < length (ord e) → (tail_of web.ends (2 * (F e + i) + 1) ≡ node e (at (ord e) i)) × (tail_of web.ends (2 * suc (F e + i)) ≡ node e (at (ord e) i))
  seam_tails e i e_in i_in =
      let mid = through_mid (ends_at g.ends e).0 (map (node e) (ord e)) (ends_at g.ends e).1 i (let size = mids-length e in omega (arith, size, i_in)) in
      let name = at-map (node e) (ord e) i i_in in
      let on : suc (F e + i) ≡ F e + suc i = omega arith in (
        tail-odd web.ends (F e + i) ∙ ap (λ p. p.1) (seg_at e i e_in (omega (arith, i_in))).1 ∙ mid.0 ∙ name,
        tail-even web.ends (suc (F e + i)) ∙ ap (λ k. (ends_at web.ends k).0) on ∙ ap (λ p. p.0) (seg_at e (suc i) e_in (omega (arith, i_in))).1 ∙ mid.1 ∙ name,
      )

  cross : (e f : ℕ) → has (ord e) f ≡ true → IsCross n edges rise ord orders.both_ways e f
  cross e f h = record { e_in = orders.within e f h; f_in = orders.within f e (orders.both_ways e f h); crosses = h; differ = not_of_itself g.ends e f (orders.independent e f h) }

  node_high : (e f : ℕ) → has (ord e) f ≡ true → n ≤ node e f
  node_high e f h = let facts = node_facts n edges rise ord orders.both_ways e f (cross e f h) in omega (arith, facts.2)

  lead : (e : ℕ) → has edges e ≡ true → WalksTo web.ends (ends_at g.ends e).0 (W e) (ends_at g.ends e).1
  lead e e_in = walks_from web.ends (ends_at g.ends e).1 (length (ord e)) (F e) (ends_at g.ends e).0 (first_tail e e_in)
      (λ i i_in. let t = seam_tails e i e_in i_in in t.0 ∙ sym t.1) (last_tail e e_in) (seg_at e (length (ord e)) e_in (omega arith)).0

  inner : (e v : ℕ) → has edges e ≡ true → has (passed web.ends (W e)) v ≡ true → n ≤ v
  inner e v e_in h =
      let size = W-length e in
      let long = passed-length web.ends (W e) (omega (arith, size)) in
      let i = place_of (passed web.ends (W e)) v h in
      let i_in : i.0 < length (ord e) = omega (arith, size, long, i.1) in
      let on : 2 * (F e + suc i.0) ≡ 2 * suc (F e + i.0) = omega arith in
      let tail : v ≡ node e (at (ord e) i.0) = sym i.2 ∙ passed_at web.ends (W e) i.0 (omega (arith, i_in, size)) ∙ ap (tail_of web.ends) (darts_at (F e) (length (ord e)) (suc i.0) (omega (arith, i_in)) ∙ on)
      ∙ (seam_tails e i.0 e_in i_in).1 in
      let high = node_high e (at (ord e) i.0) (has-at (ord e) i.0 i_in) in
      omega (arith, tail, high)

  -- the walks laid end to end are the first darts of all segments
  abbrev all : List ℕ
  all = flat_map W edges

  pub all_at : (s : ℕ) → s < length all → at all s ≡ 2 * s
  all_at s s_in =
      let f = found_at W edges distinct s s_in in
      let size = W-length f.0 in
      let p = W_place f.0 in
      let place_it : 2 * (F f.0 + f.2) ≡ 2 * s = omega (arith, f.4, p) in
      ap (at all) f.4 ∙ at_place W edges f.0 f.2 0 f.1 f.3 ∙ darts_at (F f.0) (length (ord f.0)) f.2 (omega (arith, f.3, size)) ∙ place_it

  once : (s : ℕ) → times_walked s all ≤ 1
  once s = at_most_once s all (λ i j i_in j_in same. let a = all_at i i_in in let b = all_at j j_in in omega (arith, a, b, same))

  each_once : (s : ℕ) → s < length web.ends → times_walked s all ≡ 1
  each_once s s_in =
      let f = found_at segs edges distinct s s_in in
      let size = segs-length f.0 in
      let more = W-length f.0 in
      let p = segs_place f.0 in
      let q = W_place f.0 in
      let low = place_in W edges f.0 f.2 f.1 (omega (arith, f.3, size, more)) in
      let in_all : s < length all = omega (arith, low, f.4, p, q) in
      let here = all_at s in_all in
      let some = one_walked s all s in_all (omega (arith, here)) in
      let few = once s in
      omega (arith, some, few)

  -- ---- the darts of a crossing

  abbrev Found : ℕ → ℕ → Type 0
  Found d v = (e : ℕ) × (has edges e ≡ true) × (i : ℕ) × (i < length (ord e)) × (node e (at (ord e) i) ≡ v) × ((d ≡ 2 * (F e + i) + 1) ⊎ (d ≡ 2 * suc (F e + i)))

  -- a dart at a further node is one of a crossing of its edge
  at_further : (d v : ℕ) → d < 2 * length web.ends → n ≤ v → tail_of web.ends d ≡ v → Found d v
  at_further d v d_in high at_v =
      let c = cases_dart d in
      let f = found_at segs edges distinct c.0 (omega (arith, d_in, c.1)) in
      let s_is : c.0 ≡ F f.0 + f.2 = let p = segs_place f.0 in omega (arith, f.4, p) in
      let size = segs-length f.0 in
      elim c.1 [ inl even ↦ forth c.0 even f.0 f.1 f.2 (omega (arith, f.3, size)) s_is | inr odd ↦ back c.0 odd f.0 f.1 f.2 (omega (arith, f.3, size)) s_is ]
    where
      forth : (s : ℕ) → d ≡ 2 * s → (e : ℕ) → has edges e ≡ true → (i : ℕ) → i ≤ length (ord e) → s ≡ F e + i → Found d v
      forth s even e e_in zero i_in s_is =
          let here : d ≡ 2 * F e = omega (arith, even, s_is) in
          let low = ends_low e e_in in
          let same : v ≡ (ends_at g.ends e).0 = sym at_v ∙ ap (tail_of web.ends) here ∙ first_tail e e_in in
          absurd (omega (arith, low, same, high))
      forth s even e e_in (suc i) i_in s_is =
          let here : d ≡ 2 * suc (F e + i) = omega (arith, even, s_is) in
          (e, e_in, i, omega (arith, i_in), sym (seam_tails e i e_in (omega (arith, i_in))).1 ∙ ap (tail_of web.ends) (sym here) ∙ at_v, inr here)

      back : (s : ℕ) → d ≡ 2 * s + 1 → (e : ℕ) → has edges e ≡ true → (i : ℕ) → i ≤ length (ord e) → s ≡ F e + i → Found d v
      back s odd e e_in i i_in s_is = elim (cases_eq i (length (ord e))) [
        | inl last ↦
            let here : d ≡ 2 * (F e + length (ord e)) + 1 = omega (arith, odd, s_is, last) in
            let low = ends_low e e_in in
            let same : v ≡ (ends_at g.ends e).1 = sym at_v ∙ ap (tail_of web.ends) here ∙ last_tail e e_in in
            absurd (omega (arith, low, same, high))
        | inr on ↦
            let here : d ≡ 2 * (F e + i) + 1 = omega (arith, odd, s_is) in
            (e, e_in, i, omega (arith, i_in, on), sym (seam_tails e i e_in (omega (arith, i_in, on))).0 ∙ ap (tail_of web.ends) (sym here) ∙ at_v, inl here)
      ]

  -- e crosses f after its segment x, and f crosses e after its segment y
  pub record Place (v : ℕ) : Type 0 where
    pub e : ℕ
    pub f : ℕ
    pub low : e < f
    pub crosses : has (ord e) f ≡ true
    pub is : node e f ≡ v

  place_at : (v : ℕ) → n ≤ v → v < web.nodes → Place v
  place_at v high v_in =
      let i = v - n in
      let i_in : i < length pairs = omega (arith, high, v_in) in
      let c = crossing_at n edges rise ord orders.both_ways i i_in in
      let e = (ends_at pairs i).0 in
      let f = (ends_at pairs i).1 in
      let facts = node_facts n edges rise ord orders.both_ways e f c.0 in
      let same : facts.0 ≡ i = elim facts.3 [
        | inl straight ↦ crossings_apart n edges rise ord orders.both_ways facts.0 i facts.1 i_in straight.0 straight.1
        | inr turned ↦
            let d = crossing_at n edges rise ord orders.both_ways facts.0 facts.1 in
            absurd (omega (arith, turned.0, turned.1, d.1, c.1))
      ] in
      record { e = e; f = f; low = c.1; crosses = c.0.crosses; is = omega (arith, facts.2, same, high) }

  pub record Darts (v : ℕ) : Type 0 where
    pub at_it : Place v
    pub x : ℕ
    pub y : ℕ
    pub x_is : x ≡ F at_it.e + position_in (ord at_it.e) at_it.f
    pub y_is : y ≡ F at_it.f + position_in (ord at_it.f) at_it.e
    pub differ : x ≢ y
    pub x_in : suc x < length web.ends
    pub y_in : suc y < length web.ends
    pub x_tails : (tail_of web.ends (2 * x + 1) ≡ v) × (tail_of web.ends (2 * suc x) ≡ v)
    pub y_tails : (tail_of web.ends (2 * y + 1) ≡ v) × (tail_of web.ends (2 * suc y) ≡ v)
    pub only : (d : ℕ) → d < 2 * length web.ends → tail_of web.ends d ≡ v → ((d ≡ 2 * x + 1) ⊎ (d ≡ 2 * suc x)) ⊎ ((d ≡ 2 * y + 1) ⊎ (d ≡ 2 * suc y))

  node_turned_is : (e f : ℕ) → has (ord e) f ≡ true → node f e ≡ node e f
  node_turned_is e f h = node_turned n edges rise ord orders.both_ways f e (λ same. (cross e f h).differ (sym same))

  seam_of : (e f : ℕ) → has (ord e) f ≡ true → (suc (F e + position_in (ord e) f) < length web.ends)
      × (tail_of web.ends (2 * (F e + position_in (ord e) f) + 1) ≡ node e f) × (tail_of web.ends (2 * suc (F e + position_in (ord e) f)) ≡ node e f)
  seam_of e f h =
      let p = at_position (ord e) f h in
      let e_in = orders.within e f h in
      let t = seam_tails e (position_in (ord e) f) e_in p.0 in
      let low = (seg_at e (suc (position_in (ord e) f)) e_in (omega (arith, p.0))).0 in
      (omega (arith, low), t.0 ∙ ap (node e) p.1, t.1 ∙ ap (node e) p.1)

  darts_of : (v : ℕ) → n ≤ v → v < web.nodes → Darts v
  darts_of v high v_in =
      let p = place_at v high v_in in
      let e = p.e in
      let f = p.f in
      let back = orders.both_ways e f p.crosses in
      let e_in = orders.within e f p.crosses in
      let f_in = orders.within f e back in
      let one = seam_of e f p.crosses in
      let two = seam_of f e back in
      let to_v : node f e ≡ v = node_turned_is e f p.crosses ∙ p.is in
      let i = at_position (ord e) f p.crosses in
      let j = at_position (ord f) e back in
      record {
        at_it = p;
        x = F e + position_in (ord e) f;
        y = F f + position_in (ord f) e;
        x_is = refl;
        y_is = refl;
        differ = λ same.
            let a = segs_place e in
            let b = segs_place f in
            let k = segs-length e in
            let l = segs-length f in
            (cross e f p.crosses).differ (blocks_apart segs edges e f (position_in (ord e) f) (position_in (ord f) e) e_in f_in (omega (arith, i.0, k)) (omega (arith, j.0, l)) (omega (arith, same, a, b)));
        x_in = one.0;
        y_in = two.0;
        x_tails = (one.1 ∙ p.is, one.2 ∙ p.is);
        y_tails = (two.1 ∙ to_v, two.2 ∙ to_v);
        only = λ d d_in at_v.
            let u = at_further d v d_in high at_v in
            let h = has-at (ord u.0) u.2 u.3 in
            elim (node_apart n edges rise ord orders.both_ways u.0 (at (ord u.0) u.2) e f (cross u.0 (at (ord u.0) u.2) h) (cross e f p.crosses) (u.4 ∙ sym p.is)) [
              | inl straight ↦
                  let P : ℕ → Type 0 = λ z. (u.2 < length (ord z)) × (at (ord z) u.2 ≡ f) in
                  let there = subst P straight.0 (u.3, straight.1) in
                  let k : u.2 ≡ position_in (ord e) f = positions_apart (ord e) (orders.no_repeats e) u.2 (position_in (ord e) f) there.0 i.0 (there.1 ∙ sym i.1) in
                  let place_it : F u.0 + u.2 ≡ F e + position_in (ord e) f = let a = ap F straight.0 in omega (arith, a, k) in
                  inl (elim u.5 [ inl odd ↦ inl (omega (arith, odd, place_it)) | inr even ↦ inr (omega (arith, even, place_it)) ])
              | inr turned ↦
                  let P : ℕ → Type 0 = λ z. (u.2 < length (ord z)) × (at (ord z) u.2 ≡ e) in
                  let there = subst P turned.0 (u.3, turned.1) in
                  let k : u.2 ≡ position_in (ord f) e = positions_apart (ord f) (orders.no_repeats f) u.2 (position_in (ord f) e) there.0 j.0 (there.1 ∙ sym j.1) in
                  let place_it : F u.0 + u.2 ≡ F f + position_in (ord f) e = let a = ap F turned.0 in omega (arith, a, k) in
                  inr (elim u.5 [ inl odd ↦ inl (omega (arith, odd, place_it)) | inr even ↦ inr (omega (arith, even, place_it)) ])
            ];
      }

  four_darts : (v : ℕ) → n ≤ v → v < web.nodes → dart_count web.ends v ≡ 4
  four_darts v high v_in =
      let d = darts_of v high v_in in
      let x = d.x in
      let y = d.y in
      let listed = (2 * x + 1) ∷ (2 * suc x) ∷ (2 * y + 1) ∷ (2 * suc y) ∷ [] in
      let same : dart_count web.ends v ≡ count_below (2 * length web.ends) (has listed) = count-same (2 * length web.ends) (λ k. eqb (tail_of web.ends k) v) (has listed) (λ k k_in.
      same_tests (eqb (tail_of web.ends k) v) (has listed k)
      (λ h. elim (d.only k k_in (eqb-true _ _ h)) [
        | inl (inl is) ↦ listed_has listed 0 k (omega arith) (sym is)
        | inl (inr is) ↦ listed_has listed 1 k (omega arith) (sym is)
        | inr (inl is) ↦ listed_has listed 2 k (omega arith) (sym is)
        | inr (inr is) ↦ listed_has listed 3 k (omega arith) (sym is)
      ])
      (λ h. eq-eqb _ _ (tail_listed x y k v d.x_tails d.y_tails (of_four (2 * x + 1) (2 * suc x) (2 * y + 1) (2 * suc y) k h)))) in
      let differ = d.differ in
      let count = count_listed (2 * length web.ends) listed (four_distinct (2 * x + 1) (2 * suc x) (2 * y + 1) (2 * suc y)
      (λ e. omega (arith, e)) (λ e. omega (arith, e, differ)) (λ e. omega (arith, e)) (λ e. omega (arith, e)) (λ e. omega (arith, e, differ)) (λ e. omega (arith, e)))
      (λ k h.
      let is = of_four (2 * x + 1) (2 * suc x) (2 * y + 1) (2 * suc y) k h in
      let a = d.x_in in
      let b = d.y_in in
      omega (arith, is, a, b)) in
      same ∙ count
    where
      tail_listed : (x y k v : ℕ) → (tail_of (web_of g edges ord).ends (2 * x + 1) ≡ v) × (tail_of (web_of g edges ord).ends (2 * suc x) ≡ v) →
          (tail_of (web_of g edges ord).ends (2 * y + 1) ≡ v) × (tail_of (web_of g edges ord).ends (2 * suc y) ≡ v) →
          ((k ≡ 2 * x + 1) ⊎ (k ≡ 2 * suc x)) ⊎ ((k ≡ 2 * y + 1) ⊎ (k ≡ 2 * suc y)) → tail_of (web_of g edges ord).ends k ≡ v
      tail_listed x y k v one two (inl (inl is)) = ap (tail_of (web_of g edges ord).ends) is ∙ one.0
      tail_listed x y k v one two (inl (inr is)) = ap (tail_of (web_of g edges ord).ends) is ∙ one.1
      tail_listed x y k v one two (inr (inl is)) = ap (tail_of (web_of g edges ord).ends) is ∙ two.0
      tail_listed x y k v one two (inr (inr is)) = ap (tail_of (web_of g edges ord).ends) is ∙ two.1

  pub mesh : IsMesh g edges (length pairs) web next W
  mesh = record {
    edge_list = orders.edge_list;
    nodes = refl;
    is_flat_map = flat;
    lead = lead;
    inner = inner;
    once = once;
    four = four_darts;
  }

  -- ---- where they cross

  module _ (drawn : (e f : ℕ) → e < f → has (ord e) f ≡ true → next (next (2 * (F e + position_in (ord e) f) + 1)) ≡ 2 * (F e + position_in (ord e) f + 1)) where
    the_map : IsMap web.nodes web.ends next
    the_map = flat.is_map

    -- the edge of the greater number crosses too
    turned : (v : ℕ) → n ≤ v → v < web.nodes → (d : Darts v) → next (next (2 * d.x + 1)) ≡ 2 * suc d.x → next (next (2 * d.y + 1)) ≡ 2 * suc d.y
    turned v high v_in d goes =
        let a = 2 * d.x + 1 in
        let b = 2 * suc d.x in
        let c = 2 * d.y + 1 in
        let x_in = d.x_in in
        let y_in = d.y_in in
        let a_in : a < 2 * length web.ends = omega (arith, x_in) in
        let c_in : c < 2 * length web.ends = omega (arith, y_in) in
        let last = (crossing_by_count web.nodes web.ends next the_map a a_in (ap (dart_count web.ends) d.x_tails.0 ∙ four_darts v high v_in)).1 in
        let other = (crossing_by_count web.nodes web.ends next the_map c c_in (ap (dart_count web.ends) d.y_tails.0 ∙ four_darts v high v_in)).0 in
        let opp = next (next c) in
        let opp_in : opp < 2 * length web.ends = the_map.permutes.below (next c) (the_map.permutes.below c c_in) in
        let opp_tail : tail_of web.ends opp ≡ v = the_map.same_node (next c) (the_map.permutes.below c c_in) ∙ the_map.same_node c c_in ∙ d.y_tails.0 in
        let differ = d.differ in
        -- next twice is its own inverse at the node, so what isn't on e stays off e
        let not_a : opp ≢ a = λ same.
        let back : next (next opp) ≡ b = ap (λ z. next (next z)) same ∙ goes in
        let again : next (next opp) ≡ c = (crossing_by_count web.nodes web.ends next the_map c c_in (ap (dart_count web.ends) d.y_tails.0 ∙ four_darts v high v_in)).1 in
        let e : c ≡ b = sym again ∙ back in omega (arith, e) in
        let not_b : opp ≢ b = λ same.
        let back : next (next opp) ≡ a = ap (λ z. next (next z)) (same ∙ sym goes) ∙ last in
        let again : next (next opp) ≡ c = (crossing_by_count web.nodes web.ends next the_map c c_in (ap (dart_count web.ends) d.y_tails.0 ∙ four_darts v high v_in)).1 in
        let e : c ≡ a = sym again ∙ back in omega (arith, e, differ) in
        elim (d.only opp opp_in opp_tail) [
          | inl (inl is) ↦ absurd (not_a is)
          | inl (inr is) ↦ absurd (not_b is)
          | inr (inl is) ↦ absurd (other is)
          | inr (inr is) ↦ is
        ]

    straight_at : (e i : ℕ) → has edges e ≡ true → i < length (ord e) → next (next (2 * (F e + i) + 1)) ≡ 2 * suc (F e + i)
    straight_at e i e_in i_in =
        let f = at (ord e) i in
        let h = has-at (ord e) i i_in in
        let p = at_position (ord e) f h in
        let same : position_in (ord e) f ≡ i = positions_apart (ord e) (orders.no_repeats e) (position_in (ord e) f) i p.0 i_in p.1 in
        let to : 2 * (F e + position_in (ord e) f + 1) ≡ 2 * suc (F e + i) = omega (arith, same) in
        elim (cases_order e f) [
          | inl eq ↦ absurd ((cross e f h).differ eq)
          | inr (inl low) ↦ ap (λ k. next (next (2 * (F e + k) + 1))) (sym same) ∙ drawn e f low h ∙ to
          | inr (inr high) ↦
              let back = orders.both_ways e f h in
              let v = node f e in
              let facts = node_facts n edges rise ord orders.both_ways f e (cross f e back) in
              let v_high : n ≤ v = omega (arith, facts.2) in
              let v_in : v < web.nodes = omega (arith, facts.1, facts.2) in
              let d = darts_of v v_high v_in in
              -- the place of v is that of f and e
              let who = node_apart n edges rise ord orders.both_ways d.at_it.e d.at_it.f f e (cross d.at_it.e d.at_it.f d.at_it.crosses) (cross f e back) d.at_it.is in
              let low_it = d.at_it.low in
              let e_is : d.at_it.e ≡ f = elim who [ inl s ↦ s.0 | inr t ↦ absurd (omega (arith, t.0, t.1, low_it, high)) ] in
              let f_is : d.at_it.f ≡ e = elim who [ inl s ↦ s.1 | inr t ↦ absurd (omega (arith, t.0, t.1, low_it, high)) ] in
              let x_goes : next (next (2 * d.x + 1)) ≡ 2 * suc d.x =
              ap (λ k. next (next (2 * k + 1))) d.x_is ∙ drawn d.at_it.e d.at_it.f low_it d.at_it.crosses
              ∙ (let on : 2 * (F d.at_it.e + position_in (ord d.at_it.e) d.at_it.f + 1) ≡ 2 * suc d.x = let is = d.x_is in omega (arith, is) in on) in
              let y_goes = turned v v_high v_in d x_goes in
              let y_to : d.y ≡ F e + i = d.y_is ∙ ap (λ z. F z + position_in (ord z) d.at_it.e) f_is ∙ ap (λ z. F e + position_in (ord e) z) e_is ∙ ap (λ k. F e + k) same in
              ap (λ k. next (next (2 * k + 1))) (sym y_to) ∙ y_goes ∙ ap (λ k. 2 * suc k) y_to
        ]

    pub loose : IsLoose g edges (length pairs) web next W
    loose = record {
      is_graph = is_graph;
      edge_list = orders.edge_list;
      nodes = refl;
      is_flat_map = flat;
      lead = lead;
      straight = λ e e_in. straight_from web.ends (ends_at g.ends e).1 n next (length (ord e)) (F e) (λ i i_in.
          let t = seam_tails e i e_in i_in in
          let high = node_high e (at (ord e) i) (has-at (ord e) i i_in) in
          (omega (arith, high, t.1), straight_at e i e_in i_in));
      once = each_once;
      four = four_darts;
    }

pub webs_are_meshes : WebsAreMeshes
webs_are_meshes g edges ord next is_graph orders flat = mesh g edges ord next is_graph orders flat

pub drawings_are_loose : DrawingsAreLoose
drawings_are_loose g edges ord next is_graph drawing = loose g edges ord next is_graph drawing.orders drawing.is_flat_map (λ e f low h. drawing.crosses e f low h)

pub touching_orders_give_drawings : TouchingOrdersGiveDrawings
touching_orders_give_drawings g ord next is_graph orders flat =
    all_edges_drawn g (crossing_count g ord) (meshes_give_drawings g _ _ _ next _ is_graph (webs_are_meshes g _ ord next is_graph orders flat))
