-- The edges of a planarised graph that touch are drawn apart: the walks in it meet simply once they have come apart.
use Rattle.std.proofs.Common.{◌≡◌, ◌≢◌, ℕ, suc, ◌+◌, ◌*◌, ◌<◌, ◌≤◌, ◌⊎◌, inl, inr, Bool, true, false, List, length, refl, sym, ◌∙◌, ap, subst, arith}
use Rattle.std.specs.List.{IsDistinct}
use Rattle.std.specs.Prelude.{nat_eq}
use Rattle.std.proofs.lemmas.Bool.{and_from, and_parts, both_ways, cases_Bool, cases_eq, cond-true, cond-false, eq-eqb, eqb-true, le-leb, lt-ltb, ltb-true}
use Rattle.xn_model.specs.Graph.{Graph, IsGraph}
use Rattle.xn_model.specs.Lists.{at, has, position_in}
use Rattle.xn_model.specs.Map.{IsFlat, reverse_of, tail_of}
use Rattle.xn_model.specs.Orders.{IsOrders, crossings_of}
use Rattle.xn_model.specs.Web.{crossing_node, first_segment, web_of}
use Rattle.xn_model.proofs.Darts.{reverse-even}
use Rattle.xn_ring.proofs.Counting.{same_tests}
use Rattle.xn_genus.proofs.Compress.{tail_in}
use Rattle.xn_genus.proofs.Kept.{EndsIn_at}
use Rattle.xn_fewer.proofs.Crossings.{IsCross, node_apart, node_facts, node_turned, not_of_itself}
use Rattle.xn_fewer.proofs.Rising.{Rising, has-all, rising-from_increasing}
use Rattle.xn_track.specs.Tidying.{is_met, order_along, other_at}
use Rattle.xn_track.specs.Track.{IsTrack, MeetSimply, passed, straight_on}
use Rattle.xn_track.proofs.Blocks.{blocks_apart}
use Rattle.xn_track.proofs.Loose.{crossing_by_count}
use Rattle.xn_track.proofs.OrdersAlong.{met_from, other_meets}
use Rattle.xn_track.proofs.Passes.{Gap, begin, goes_at, passed-length, passed_at, two_gaps, walk_seam}
use Rattle.xn_track.proofs.Places.{has-at, place_of, positions_apart}
use Rattle.xn_general.specs.Touching.{IsMesh}
use Rattle.xn_general.specs.Webs.{walk_in_web}
use Rattle.xn_general.proofs.InWeb.{at_position, darts_at}
use Rattle.xn_general.proofs.Touch.{Smoothed, mesh_smoothed}
use Rattle.xn_general.proofs.Webs.{W-length, W_place, first_tail, last_tail, seam_tails, seg_at, webs_are_meshes}
use Rattle.xn_simple.specs.Crossed.{crossed_from, crossed_order, runs_straight}
use Rattle.xn_simple.specs.Loosened.{ComesFrom}
use Rattle.xn_simple.proofs.Apart.{is_kept, named, named_from}
use Rattle.xn_simple.proofs.Lists.{distinct_by_places, none_in, picked_is}

module _ (g : Graph) (edges : List ℕ) (ord : ℕ → List ℕ) (next : ℕ → ℕ) (is_graph : IsGraph g) (orders : IsOrders g.ends edges ord)
    (flat : IsFlat (web_of g edges ord) next) where
  abbrev n : ℕ
  n = g.nodes

  abbrev pairs : List (ℕ × ℕ)
  pairs = crossings_of edges ord

  abbrev web : Graph
  web = web_of g edges ord

  abbrev F : ℕ → ℕ
  F = first_segment edges ord

  abbrev W : ℕ → List ℕ
  W = walk_in_web edges ord

  abbrev node : ℕ → ℕ → ℕ
  node = crossing_node n pairs

  abbrev K : Graph → (ℕ → ℕ) → (ℕ → Bool) → Type 0
  K = ComesFrom n web next

  rise : Rising edges
  rise = rising-from_increasing edges orders.edge_list.rise

  the_mesh : IsMesh g edges (length pairs) web next W
  the_mesh = webs_are_meshes g edges ord next is_graph orders flat

  pub smoothed : Smoothed g edges W is_graph (ComesFrom n web next) (is_kept n web next) (length pairs)
  smoothed = mesh_smoothed g edges (length pairs) web next W is_graph the_mesh K (is_kept n web next) (record {
    size = refl;
    nodes = omega arith;
    old = λ v h. let both : (_ ≡ true) × (_ ≡ true) = and_parts _ _ h in ltb-true _ _ both.1;
    tails = λ d d_in. inl refl;
    turns = λ d d_in h. refl;
    bends = λ d d_in high fails. absurd (both_ways _ fails (and_from _ _ (le-leb _ _ high) (lt-ltb _ _ (tail_in web.nodes web.ends flat.is_map.ends_in d d_in))));
  })

  abbrev more : Graph
  more = smoothed.web

  abbrev after : ℕ → ℕ
  after = smoothed.next

  abbrev four : ℕ → Bool
  four = smoothed.four

  abbrev kept : ComesFrom n web next more after four
  kept = smoothed.kept

  abbrev track : IsTrack g edges more after four W
  track = smoothed.track

  abbrev inner : ℕ → List ℕ
  inner e = passed more.ends (W e)

  -- the node of the pass i of e
  abbrev spot : ℕ → ℕ → ℕ
  spot e i = tail_of more.ends (2 * suc (F e + i))

  low : (e i : ℕ) → has edges e ≡ true → i < length (ord e) → suc (F e + i) < length web.ends
  low e i e_in i_in = let s = (seg_at g edges ord next is_graph orders flat e (suc i) e_in (omega (arith, i_in))).0 in omega (arith, s)

  tails : (e i : ℕ) → has edges e ≡ true → i < length (ord e) →
      (tail_of web.ends (2 * (F e + i) + 1) ≡ node e (at (ord e) i)) × (tail_of web.ends (2 * suc (F e + i)) ≡ node e (at (ord e) i))
  tails e i e_in i_in = seam_tails g edges ord next is_graph orders flat e i e_in i_in

  size : (e : ℕ) → length (W e) ≡ suc (length (ord e))
  size e = W-length g edges ord next is_graph orders flat e

  pub inner_length : (e : ℕ) → length (inner e) ≡ length (ord e)
  inner_length e = let long = passed-length more.ends (W e) (omega (arith, size e)) in omega (arith, size e, long)

  pub inner_at : (e i : ℕ) → i < length (ord e) → at (inner e) i ≡ spot e i
  inner_at e i i_in =
      let on : 2 * (F e + suc i) ≡ 2 * suc (F e + i) = omega arith in
      passed_at more.ends (W e) i (omega (arith, i_in, size e)) ∙ ap (tail_of more.ends) (darts_at (F e) (length (ord e)) (suc i) (omega (arith, i_in)) ∙ on)

  pub begins : (e : ℕ) → begin g edges more after four W is_graph track e ≡ F e
  begins e = W_place g edges ord next is_graph orders flat e

  gap : (e i : ℕ) → has edges e ≡ true → i < length (ord e) → Gap g edges more after four W is_graph track (F e + i) (spot e i)
  gap e i e_in i_in = record {
    edge = e;
    edge_is = e_in;
    i = i;
    i_in = omega (arith, i_in, inner_length e);
    x_is = ap (λ k. k + i) (sym (begins e));
    node = inner_at e i i_in;
  }

  cross : (e f : ℕ) → has (ord e) f ≡ true → IsCross n edges rise ord orders.both_ways e f
  cross e f h = record {
    e_in = orders.within e f h;
    f_in = orders.within f e (orders.both_ways e f h);
    crosses = h;
    differ = not_of_itself g.ends e f (orders.independent e f h);
  }

  -- ---- two passes of one node

  abbrev Other : ℕ → ℕ → ℕ → ℕ → Type 0
  Other e i f j = F e + i ≢ F f + j

  two_passes : (e i f j : ℕ) → has edges e ≡ true → i < length (ord e) → has edges f ≡ true → j < length (ord f) → Other e i f j → spot e i ≡ spot f j →
      four (spot e i) ≡ true
  two_passes e i f j e_in i_in f_in j_in other same =
      (two_gaps g edges more after four W is_graph track (F e + i) (F f + j) (spot e i) (gap e i e_in i_in)
      (subst (λ v. Gap g edges more after four W is_graph track (F f + j) v) (sym same) (gap f j f_in j_in)) other).four_is

  stands : (e i : ℕ) → has edges e ≡ true → i < length (ord e) → four (spot e i) ≡ true → node e (at (ord e) i) ≡ spot e i
  stands e i e_in i_in holds =
      let d_in : 2 * suc (F e + i) < 2 * length web.ends = let l = low e i e_in i_in in omega (arith, l) in
      sym (tails e i e_in i_in).1 ∙ named n web next more after four kept (2 * suc (F e + i)) (spot e i) d_in holds refl

  one_crossing : (e i f j : ℕ) → has edges e ≡ true → i < length (ord e) → has edges f ≡ true → j < length (ord f) → Other e i f j → spot e i ≡ spot f j →
      ((e ≡ f) × (at (ord e) i ≡ at (ord f) j)) ⊎ ((e ≡ at (ord f) j) × (at (ord e) i ≡ f))
  one_crossing e i f j e_in i_in f_in j_in other same =
      let holds = two_passes e i f j e_in i_in f_in j_in other same in
      node_apart n edges rise ord orders.both_ways e (at (ord e) i) f (at (ord f) j) (cross e (at (ord e) i) (has-at (ord e) i i_in)) (cross f (at (ord f) j) (has-at (ord f) j j_in))
      (stands e i e_in i_in holds ∙ same ∙ sym (stands f j f_in j_in (ap four (sym same) ∙ holds)))

  itself : (e : ℕ) → has edges e ≡ true → IsDistinct nat_eq (inner e)
  itself e e_in = distinct_by_places (inner e) (λ i j i_low j_low same.
      let i_in : i < length (ord e) = omega (arith, i_low, inner_length e) in
      let j_in : j < length (ord e) = omega (arith, j_low, inner_length e) in
      elim (cases_eq i j) [
        | inl is ↦ is
        | inr other ↦ elim (one_crossing e i e j e_in i_in e_in j_in (λ eq. other (omega (arith, eq))) (sym (inner_at e i i_in) ∙ same ∙ inner_at e j j_in)) [
          | inl is ↦ positions_apart (ord e) (orders.no_repeats e) i j i_in j_in is.1
          | inr is ↦ absurd (not_of_itself g.ends e e (orders.independent e e (subst (λ f. has (ord e) f ≡ true) is.1 (has-at (ord e) i i_in))) refl)
        ]
      ])

  -- two walks meet at v
  pub record Both (e f v : ℕ) : Type 0 where
    pub i : ℕ
    pub i_in : i < length (ord e)
    pub at_i : spot e i ≡ v
    pub holds : four v ≡ true
    pub crosser : at (ord e) i ≡ f
    pub is_node : node e f ≡ v

  both : (e f v : ℕ) → has edges e ≡ true → has edges f ≡ true → e ≢ f → has (inner e) v ≡ true → has (inner f) v ≡ true → Both e f v
  both e f v e_in f_in differ one two =
      let p = place_of (inner e) v one in
      let q = place_of (inner f) v two in
      let p_in : p.0 < length (ord e) = let l = p.1 in omega (arith, l, inner_length e) in
      let q_in : q.0 < length (ord f) = let l = q.1 in omega (arith, l, inner_length f) in
      let at_p : spot e p.0 ≡ v = sym (inner_at e p.0 p_in) ∙ p.2 in
      let at_q : spot f q.0 ≡ v = sym (inner_at f q.0 q_in) ∙ q.2 in
      let other : Other e p.0 f q.0 = λ eq. differ (blocks_apart W edges e f p.0 q.0 e_in f_in (omega (arith, p_in, size e)) (omega (arith, q_in, size f)) (omega (arith, eq, begins e, begins f))) in
      let holds = two_passes e p.0 f q.0 e_in p_in f_in q_in other (at_p ∙ sym at_q) in
      elim (one_crossing e p.0 f q.0 e_in p_in f_in q_in other (at_p ∙ sym at_q)) [
        | inl is ↦ absurd (differ is.0)
        | inr is ↦ record {
          i = p.0;
          i_in = p_in;
          at_i = at_p;
          holds = ap four (sym at_p) ∙ holds;
          crosser = is.1;
          is_node = ap (node e) (sym is.1) ∙ stands e p.0 e_in p_in holds ∙ at_p;
        }
      ]

  pub simply : MeetSimply g edges more.ends W
  simply = record {
    itself = itself;
    apart = λ e f v e_in f_in differ one two.
        let b = both e f v e_in f_in differ one two in
        orders.independent e f (subst (λ z. has (ord e) z ≡ true) b.crosser (has-at (ord e) b.i b.i_in));
    one = λ e f u v e_in f_in differ a b c d. sym (both e f u e_in f_in differ a b).is_node ∙ (both e f v e_in f_in differ c d).is_node;
  }

  -- ---- a crossing is one that runs straight

  abbrev come : ℕ → ℕ → ℕ
  come e i = 2 * (F e + i) + 1

  abbrev go : ℕ → ℕ → ℕ
  go e i = 2 * suc (F e + i)

  come_in : (e i : ℕ) → has edges e ≡ true → i < length (ord e) → come e i < 2 * length web.ends
  come_in e i e_in i_in = let l = low e i e_in i_in in omega (arith, l)

  come_spot : (e i : ℕ) → has edges e ≡ true → i < length (ord e) → tail_of more.ends (come e i) ≡ spot e i
  come_spot e i e_in i_in =
      let here : come e i ≡ reverse_of (at (W e) i) = sym (ap reverse_of (darts_at (F e) (length (ord e)) i (omega (arith, i_in))) ∙ reverse-even (F e + i)) in
      let on : 2 * (F e + suc i) ≡ 2 * suc (F e + i) = omega arith in
      ap (tail_of more.ends) here ∙ walk_seam more.ends _ _ (W e) (track.lead e e_in) i (omega (arith, i_in, size e))
      ∙ ap (tail_of more.ends) (darts_at (F e) (length (ord e)) (suc i) (omega (arith, i_in)) ∙ on)

  leaves : (e i : ℕ) → has edges e ≡ true → i < length (ord e) → straight_on more.ends four after (come e i) ≡ go e i
  leaves e i e_in i_in =
      let here : come e i ≡ reverse_of (at (W e) i) = sym (ap reverse_of (darts_at (F e) (length (ord e)) i (omega (arith, i_in))) ∙ reverse-even (F e + i)) in
      let on : 2 * (F e + suc i) ≡ 2 * suc (F e + i) = omega arith in
      ap (straight_on more.ends four after) here ∙ (goes_at n more.ends (straight_on more.ends four after) (W e) (track.straight e e_in) i (omega (arith, i_in, size e))).1
      ∙ darts_at (F e) (length (ord e)) (suc i) (omega (arith, i_in)) ∙ on

  pub four_straight : (e i : ℕ) → has edges e ≡ true → i < length (ord e) → four (spot e i) ≡ true → runs_straight next (F e + i) ≡ true
  four_straight e i e_in i_in holds =
      let r = come e i in
      let r_in = come_in e i e_in i_in in
      let at_r : tail_of web.ends r ≡ spot e i = (tails e i e_in i_in).0 ∙ stands e i e_in i_in holds in
      let one : after r ≡ next r = kept.turns r r_in (inr (ap four at_r ∙ holds)) in
      let r' = next r in
      let two : after r' ≡ next r' = kept.turns r' (flat.is_map.permutes.below r r_in) (inr (ap four (flat.is_map.same_node r r_in ∙ at_r) ∙ holds)) in
      let goes : after (after r) ≡ go e i = sym (cond-true _ _ _ (ap four (come_spot e i e_in i_in) ∙ holds)) ∙ leaves e i e_in i_in in
      eq-eqb _ _ (sym (ap after one ∙ two) ∙ goes)

  -- both darts at a crossing that is named stand there, and turn as before
  stays : (d v : ℕ) → d < 2 * length web.ends → tail_of web.ends d ≡ v → four v ≡ true → (d < 2 * length web.ends) × (after d ≡ next d)
  stays d v d_in at_v holds = (d_in, kept.turns d d_in (inr (ap four at_v ∙ holds)))

  -- the first dart of a walk and the last stand at nodes of the graph, and turn as before
  pub ends_stand : (e : ℕ) → has edges e ≡ true → ((2 * F e < 2 * length web.ends) × (after (2 * F e) ≡ next (2 * F e)))
      × ((2 * (F e + length (ord e)) + 1 < 2 * length web.ends) × (after (2 * (F e + length (ord e)) + 1) ≡ next (2 * (F e + length (ord e)) + 1)))
  ends_stand e e_in =
      let ends = EndsIn_at n g.ends is_graph.ends_in e (has-all (λ x. x < length g.ends) edges orders.edge_list.below e e_in) in
      let one = (seg_at g edges ord next is_graph orders flat e 0 e_in (omega arith)).0 in
      let two = (seg_at g edges ord next is_graph orders flat e (length (ord e)) e_in (omega arith)).0 in
      let first = first_tail g edges ord next is_graph orders flat e e_in in
      let last = last_tail g edges ord next is_graph orders flat e e_in in
      let one_in : 2 * F e < 2 * length web.ends = omega (arith, one) in
      let two_in : 2 * (F e + length (ord e)) + 1 < 2 * length web.ends = omega (arith, two) in
      ((one_in, kept.turns (2 * F e) one_in (inl (omega (arith, first, ends.0)))), (two_in, kept.turns (2 * (F e + length (ord e)) + 1) two_in (inl (omega (arith, last, ends.1)))))

  high : (e i : ℕ) → has edges e ≡ true → i < length (ord e) → (n ≤ node e (at (ord e) i)) × (node e (at (ord e) i) < web.nodes)
  high e i e_in i_in =
      let facts = node_facts n edges rise ord orders.both_ways e (at (ord e) i) (cross e (at (ord e) i) (has-at (ord e) i i_in)) in
      (omega (arith, facts.2), omega (arith, facts.1, facts.2))

  pub straight_four : (e i : ℕ) → has edges e ≡ true → i < length (ord e) → runs_straight next (F e + i) ≡ true → four (spot e i) ≡ true
  straight_four e i e_in i_in straight = elim (cases_Bool (four (spot e i))) [
    | inl holds ↦ holds
    | inr fails ↦
        let r = come e i in
        let z = go e i in
        let r_in = come_in e i e_in i_in in
        let z_in : z < 2 * length web.ends = let l = low e i e_in i_in in omega (arith, l) in
        let t = tails e i e_in i_in in
        let up = high e i e_in i_in in
        let on : next (next r) ≡ z = eqb-true _ _ straight in
        let goes : after r ≡ z = sym (cond-false _ _ _ (ap four (come_spot e i e_in i_in) ∙ fails)) ∙ leaves e i e_in i_in in
        let off : four (tail_of web.ends r) ≡ false = ap four (t.0 ∙ sym t.1) ∙ elim (kept.tails z z_in) [
          | inl same ↦ ap four (sym same) ∙ fails
          | inr new ↦ new.2
        ] in
        let crossing = crossing_by_count web.nodes web.ends next flat.is_map r r_in (the_mesh.four (tail_of web.ends r) (omega (arith, up.0, t.0)) (omega (arith, up.1, t.0))) in
        let stuck : next r ≡ r → ⊥ = λ fix. crossing.0 (ap next fix ∙ fix) in
        absurd (elim (kept.bends r r_in (omega (arith, up.0, t.0)) off) [
          | inl same ↦
              let fix : next (next r) ≡ next r = on ∙ sym goes ∙ same in
              stuck (flat.is_map.permutes.apart (next r) r (flat.is_map.permutes.below r r_in) r_in fix)
          | inr back ↦
              let again : next (next (next r)) ≡ r = ap next (on ∙ sym goes) ∙ back in
              stuck (sym (ap next again) ∙ crossing.1)
        ])
  ]

  pub straight_stands : (e i : ℕ) → has edges e ≡ true → i < length (ord e) → runs_straight next (F e + i) ≡ true →
      ((2 * (F e + i) + 1 < 2 * length web.ends) × (after (2 * (F e + i) + 1) ≡ next (2 * (F e + i) + 1)))
      × ((2 * suc (F e + i) < 2 * length web.ends) × (after (2 * suc (F e + i)) ≡ next (2 * suc (F e + i))))
  straight_stands e i e_in i_in straight =
      let holds = straight_four e i e_in i_in straight in
      let t = tails e i e_in i_in in
      let at_v = stands e i e_in i_in holds in
      let l = low e i e_in i_in in
      (stays (come e i) (spot e i) (omega (arith, l)) (t.0 ∙ at_v) holds, stays (go e i) (spot e i) (omega (arith, l)) (t.1 ∙ at_v) holds)

  -- ---- so the orders along the walks have the crossings that run straight

  abbrev stops : ℕ → ℕ → Bool
  stops = is_met edges more.ends W

  abbrev partner : ℕ → ℕ → ℕ
  partner = other_at edges more.ends W

  spot_in : (e i : ℕ) → i < length (ord e) → has (inner e) (spot e i) ≡ true
  spot_in e i i_in = subst (λ v. has (inner e) v ≡ true) (inner_at e i i_in) (has-at (inner e) i (omega (arith, i_in, inner_length e)))

  met_both : (e v : ℕ) → has edges e ≡ true → has (inner e) v ≡ true → stops e v ≡ true → Both e (partner e v) v
  met_both e v e_in at_v h =
      let m = other_meets g edges more after four W is_graph track simply e v e_in at_v h in
      both e (partner e v) v m.e_in m.f_in m.differ m.one m.two

  to_met : (e i : ℕ) → has edges e ≡ true → i < length (ord e) → runs_straight next (F e + i) ≡ true → stops e (spot e i) ≡ true
  to_met e i e_in i_in straight =
      let holds = straight_four e i e_in i_in straight in
      let v = spot e i in
      let f = at (ord e) i in
      let c = cross e f (has-at (ord e) i i_in) in
      let back = orders.both_ways e f c.crosses in
      let p = at_position (ord f) e back in
      let z = go f (position_in (ord f) e) in
      let z_in : z < 2 * length web.ends = let l = low f (position_in (ord f) e) c.f_in p.0 in omega (arith, l) in
      let at_z : tail_of web.ends z ≡ v =
      (tails f (position_in (ord f) e) c.f_in p.0).1 ∙ ap (node f) p.1 ∙ node_turned n edges rise ord orders.both_ways f e (λ same. c.differ (sym same)) ∙ stands e i e_in i_in holds in
      let there : spot f (position_in (ord f) e) ≡ v = named_from n web next more after four kept z v z_in holds at_z in
      met_from g edges more after four W is_graph track simply e f v (record {
        e_in = e_in;
        f_in = c.f_in;
        differ = c.differ;
        one = spot_in e i i_in;
        two = subst (λ u. has (inner f) u ≡ true) there (spot_in f (position_in (ord f) e) p.0);
      })

  pub test_is : (e i : ℕ) → has edges e ≡ true → i < length (ord e) → stops e (at (inner e) i) ≡ runs_straight next (F e + i)
  test_is e i e_in i_in =
      let here = inner_at e i i_in in
      ap (stops e) here ∙ same_tests (stops e (spot e i)) (runs_straight next (F e + i))
      (λ h. let b = met_both e (spot e i) e_in (spot_in e i i_in) h in four_straight e i e_in i_in b.holds)
      (to_met e i e_in i_in)

  name_is : (e i : ℕ) → has edges e ≡ true → i < length (ord e) → stops e (at (inner e) i) ≡ true → partner e (at (inner e) i) ≡ at (ord e) i
  name_is e i e_in i_in h =
      let here = inner_at e i i_in in
      let b = met_both e (spot e i) e_in (spot_in e i i_in) (ap (stops e) (sym here) ∙ h) in
      let b_low : b.i < length (inner e) = let l = b.i_in in omega (arith, l, inner_length e) in
      let same : b.i ≡ i = positions_apart (inner e) (itself e e_in) b.i i b_low (omega (arith, i_in, inner_length e)) (inner_at e b.i b.i_in ∙ b.at_i ∙ sym here) in
      ap (partner e) here ∙ sym b.crosser ∙ ap (at (ord e)) same

  order_is : (e : ℕ) → order_along edges more.ends W e ≡ crossed_order edges ord next e
  order_is e = elim (cases_Bool (has edges e)) [
    | inl e_in ↦ cond-true _ _ _ e_in ∙ picked_is next (stops e) (partner e) (inner e) (ord e) (F e) (inner_length e) (λ i i_in. test_is e i e_in i_in) (λ i i_in. name_is e i e_in i_in)
    | inr out ↦ cond-false _ _ _ out ∙ sym (ap (crossed_from next (F e)) (none_in (ord e) (λ f h. both_ways _ out (orders.within e f h))))
  ]

  pub order_same : order_along edges more.ends W ≡ crossed_order edges ord next
  order_same = λ i e. order_is e i
