-- Tracks that meet simply become the planarised graph of the orders along them.
use Rattle.std.proofs.Common.{◌≡◌, ◌≢◌, ℕ, suc, ◌+◌, ◌-◌, ◌*◌, ◌<◌, ◌≤◌, ◌⊎◌, inl, inr, Bool, true, false, ◌&&◌, cond, leb, ltb, List, length, map, refl, sym, ◌∙◌, ap, ap₂, subst, arith}
use Rattle.std.specs.List.{IsDistinct, flat_map, range_with_len}
use Rattle.std.specs.Prelude.{filter, nat_eq}
use Rattle.std.proofs.lemmas.Bool.{and_from, and_parts, both_ways, cases_Bool, cases_eq, cases_lt, cond-true, cond-false, le-leb, le-ltb, leb-true, lt-ltb}
use Rattle.std.proofs.lemmas.List.{length-map}
use Rattle.xn_model.specs.Drawing.{CrossesAt}
use Rattle.xn_model.specs.Graph.{EndsIn, Graph, IsGraph, ends_at}
use Rattle.xn_model.specs.Lists.{at, has, position_in}
use Rattle.xn_model.specs.Map.{MeetsEuler, IsFlat, IsMap, is_lone, tail_of}
use Rattle.xn_model.specs.Orders.{crossings_of}
use Rattle.xn_model.specs.Permutation.{count_below}
use Rattle.xn_model.specs.Web.{crossing_node, first_segment, segments_of, segments_through, web_of}
use Rattle.xn_model.proofs.Darts.{tail-even, tail-odd}
use Rattle.xn_model.proofs.Ranges.{edge_list, has-range_past}
use Rattle.xn_ring.proofs.Counting.{count-all, count_injects}
use Rattle.xn_genus.proofs.Compress.{tail_in}
use Rattle.xn_genus.proofs.Lone.{no_dart_if_lone}
use Rattle.xn_fewer.proofs.Fewer.{ends-flat_map, ends-through}
use Rattle.xn_fewer.proofs.Crossings.{crossing_at, crossings_apart, node_facts}
use Rattle.xn_fewer.proofs.Has.{has-kept, has-picked}
use Rattle.xn_fewer.proofs.Rising.{Rising, distinct-rising, rises-filter, rising-from_increasing}
use Rattle.xn_model.proofs.Has.{has-at, place_of, position_below}
use Rattle.xn_track.specs.Cutting.{IsCutting, TurnsAsRuns, run_dart}
use Rattle.xn_track.specs.Tidying.{IsDrawingOfEdges, TracksThatMeetSimplyAreDrawings}
use Rattle.xn_track.specs.Track.{IsTrack, MeetSimply, passed}
use Rattle.xn_track.proofs.Blocks.{at_place, place, place-first_segment, place-same, place_in, size_of}
use Rattle.xn_track.proofs.Cutting.{cutting_leaves_a_map, run_even, run_odd}
use Rattle.xn_track.proofs.Places.{positions_apart}
use Rattle.xn_track.proofs.OrdersAlong.{BothMeet, Cross, Seam, cross_from, in_ord, make_gap, meeting, meeting_both, meeting_is, met, met_from, no_third, ord, ord_is, orders, other, other_meets, rising, starts_apart, turned, two_seams}
use Rattle.xn_track.proofs.Passes.{begin, ends_below, gap_high, gap_in, one_gap, part, part_flat, part_map, part_size, part_tails, size_is, track_first, track_last, turn, two_gaps}
use Rattle.xn_track.proofs.Runs.{Chained, Match, chained_apart, chained_at, chained_covers, chained_runs, match-length, match_at, match_runs, runs-length, runs_from, runs_seams}
use Rattle.xn_track.proofs.RunsOfAll.{chained_all, ends-more, has-range, map-map, match_all, used_alone}

module _ (g : Graph) (edges : List ℕ) (web : Graph) (next : ℕ → ℕ) (four : ℕ → Bool) (walks : ℕ → List ℕ) (is_graph : IsGraph g)
    (track : IsTrack g edges web next four walks) (meet : MeetSimply g edges web.ends walks) where
  abbrev n : ℕ
  n = g.nodes

  abbrev segs : List (ℕ × ℕ)
  segs = part g edges web next four walks is_graph track

  abbrev turns : ℕ → ℕ
  turns = turn g edges web next four walks is_graph track

  abbrev start : ℕ → ℕ
  start = begin g edges web next four walks is_graph track

  abbrev inner : ℕ → List ℕ
  inner e = passed web.ends (walks e)

  abbrev order : ℕ → List ℕ
  order = ord g edges web next four walks is_graph track meet

  abbrev stops : ℕ → ℕ → Bool
  stops = met g edges web next four walks is_graph track meet

  abbrev partner : ℕ → ℕ → ℕ
  partner = other g edges web next four walks is_graph track meet

  abbrev Two : ℕ → ℕ → ℕ → Type 0
  Two = BothMeet g edges web next four walks is_graph track meet

  abbrev S : ℕ → ℕ → Type 0
  S = Seam g edges web next four walks is_graph track meet

  abbrev the_map : IsMap web.nodes segs turns
  the_map = part_map g edges web next four walks is_graph track

  abbrev pairs : List (ℕ × ℕ)
  pairs = crossings_of edges order

  abbrev drawn : Graph
  drawn = web_of g edges order

  abbrev lones : List ℕ
  lones = filter (λ v. leb n v && is_lone segs v) (range_with_len 0 web.nodes)

  abbrev used : ℕ
  used = n + length pairs

  abbrev total_nodes : ℕ
  total_nodes = used + length lones

  abbrev meets : ℕ → ℕ → ℕ
  meets = meeting g edges web next four walks is_graph track meet

  abbrev node : ℕ → ℕ
  node w = cond (ltb w n) w (cond (ltb w used) (meets (ends_at pairs (w - n)).0 (ends_at pairs (w - n)).1) (at lones (w - used)))

  node_low : (w : ℕ) → w < n → node w ≡ w
  node_low w w_in = cond-true _ _ _ (lt-ltb w n w_in)

  node_mid : (i : ℕ) → i < length pairs → node (n + i) ≡ meets (ends_at pairs i).0 (ends_at pairs i).1
  node_mid i i_in =
      let place : n + i - n ≡ i = omega arith in
      cond-false _ _ _ (le-ltb (n + i) n (omega arith)) ∙ cond-true _ _ _ (lt-ltb (n + i) used (omega (arith, i_in)))
      ∙ ap (λ j. meets (ends_at pairs j).0 (ends_at pairs j).1) place

  node_high : (i : ℕ) → node (used + i) ≡ at lones i
  node_high i =
      let place : used + i - used ≡ i = omega arith in
      cond-false _ _ _ (le-ltb (used + i) n (omega arith)) ∙ cond-false _ _ _ (le-ltb (used + i) used (omega arith)) ∙ ap (at lones) place

  -- ---- the crossings

  abbrev Crossed : ℕ → ℕ → Type 0
  Crossed = Cross g edges web next four walks is_graph track meet

  abbrev rise : Rising edges
  rise = rising g edges web next four walks is_graph track meet

  listed : (i : ℕ) → i < length pairs → Crossed (ends_at pairs i).0 (ends_at pairs i).1 × ((ends_at pairs i).0 < (ends_at pairs i).1)
  listed i i_in = crossing_at n edges rise order (orders g edges web next four walks is_graph track meet).both_ways i i_in

  listed_two : (i : ℕ) → i < length pairs → Two (ends_at pairs i).0 (ends_at pairs i).1 (node (n + i))
  listed_two i i_in =
      let e = (ends_at pairs i).0 in
      let f = (ends_at pairs i).1 in
      let P : ℕ → Type 0 = λ v. Two e f v in
      subst P (sym (node_mid i i_in)) (meeting_both g edges web next four walks is_graph track meet e f (listed i i_in).0)

  -- a node at which two walks meet is one of the listed, by the number of their crossing
  number : (e f v : ℕ) → Two e f v → (crossing_node n pairs e f < used) × (node (crossing_node n pairs e f) ≡ v)
  number e f v two =
      let c = cross_from g edges web next four walks is_graph track meet e f v two in
      let facts = node_facts n edges rise order (orders g edges web next four walks is_graph track meet).both_ways e f c in
      let i = facts.0 in
      let is_v : meets (ends_at pairs i).0 (ends_at pairs i).1 ≡ v = elim facts.3 [
        | inl same ↦ ap₂ meets same.0 same.1 ∙ meeting_is g edges web next four walks is_graph track meet e f v two
        | inr same ↦ ap₂ meets same.0 same.1 ∙ meeting_is g edges web next four walks is_graph track meet f e v (turned g edges web next four walks is_graph track meet e f v two)
      ] in
      (omega (arith, facts.1, facts.2), ap node facts.2 ∙ node_mid i facts.1 ∙ is_v)

  seam_of : (e f v : ℕ) → Two e f v → (x : ℕ) × S x v
  seam_of e f v two = let s = two_seams g edges web next four walks is_graph track meet e f v two in (s.0, s.2)

  seam_node : (x v : ℕ) → S x v → (n ≤ v) × (v < web.nodes) × (is_lone segs v ≡ false)
  seam_node x v seam =
      let tails = part_tails g edges web next four walks is_graph track x v seam in
      let in_range = gap_in g edges web next four walks is_graph track x v seam in
      let size = part_size g edges web next four walks is_graph track in
      let d_in : 2 * x + 1 < 2 * length segs = omega (arith, in_range, size) in
      let low = tail_in web.nodes segs the_map.ends_in (2 * x + 1) d_in in (
        gap_high g edges web next four walks is_graph track x v seam,
        omega (arith, low, tails.0),
        elim (cases_Bool (is_lone segs v)) [
          | inr fails ↦ fails
          | inl alone ↦ absurd (no_dart_if_lone segs v alone (2 * x + 1) d_in tails.0)
        ],
      )

  lone_facts : (i : ℕ) → i < length lones → (n ≤ at lones i) × (at lones i < web.nodes) × (is_lone segs (at lones i) ≡ true)
  lone_facts i i_in =
      let v = at lones i in
      let picked = has-picked (λ u. leb n u && is_lone segs u) (range_with_len 0 web.nodes) v (has-at lones i i_in) in
      let parts : (leb n v ≡ true) × (is_lone segs v ≡ true) = and_parts _ _ picked.1 in
      let low = range_below web.nodes v picked.0 in
      (leb-true n v parts.0, low, parts.1)
    where
      range_below : (m v : ℕ) → has (range_with_len 0 m) v ≡ true → v < m
      range_below m v h = elim (cases_lt v m) [ inl low ↦ low | inr past ↦ absurd (both_ways _ (has-range_past 0 m v (omega (arith, past))) h) ]

  distinct_lones : IsDistinct nat_eq lones
  distinct_lones =
      let range = range_with_len 0 web.nodes in
      distinct-rising lones (rises-filter (λ x. x) (λ v. leb n v && is_lone segs v) range (rising-from_increasing range (edge_list web.nodes).rise))

  -- ---- the names of the nodes

  name : (w : ℕ) → w < total_nodes →
      ((w < n) × (node w ≡ w)) ⊎ (((i : ℕ) × (i < length pairs) × (w ≡ n + i)) ⊎ ((i : ℕ) × (i < length lones) × (w ≡ used + i) × (node w ≡ at lones i)))
  name w w_in = elim (cases_lt w n) [
    | inl low ↦ inl (low, node_low w low)
    | inr high ↦ elim (cases_lt w used) [
      | inl mid ↦ inr (inl (w - n, omega (arith, high, mid), omega (arith, high)))
      | inr top ↦
          let is : w ≡ used + (w - used) = omega (arith, top) in
          inr (inr (w - used, omega (arith, w_in, top), is, ap node is ∙ node_high (w - used)))
    ]
  ]

  mid_facts : (w i : ℕ) → i < length pairs → w ≡ n + i → (n ≤ node w) × (node w < web.nodes) × (is_lone segs (node w) ≡ false)
  mid_facts w i i_in is =
      let two = listed_two i i_in in
      let s = seam_of (ends_at pairs i).0 (ends_at pairs i).1 (node (n + i)) two in
      let P : ℕ → Type 0 = λ v. (n ≤ node v) × (node v < web.nodes) × (is_lone segs (node v) ≡ false) in
      subst P (sym is) (seam_node s.0 (node (n + i)) s.1)

  nodes_in : (w : ℕ) → w < total_nodes → node w < web.nodes
  nodes_in w w_in = elim (name w w_in) [
    | inl low ↦ let more = track.ground.nodes_in in omega (arith, low, more)
    | inr (inl mid) ↦ (mid_facts w mid.0 mid.1 mid.2).1
    | inr (inr top) ↦ let facts = lone_facts top.0 top.1 in omega (arith, facts.1, top.3)
  ]

  mid_apart : (i j : ℕ) → i < length pairs → j < length pairs → node (n + i) ≡ node (n + j) → i ≡ j
  mid_apart i j i_in j_in same =
      let e = (ends_at pairs i).0 in
      let f = (ends_at pairs i).1 in
      let one = listed_two i i_in in
      let P : ℕ → Type 0 = λ v. Two (ends_at pairs j).0 (ends_at pairs j).1 v in
      let two = subst P (sym same) (listed_two j j_in) in
      let first = no_third g edges web next four walks is_graph track meet e f (ends_at pairs j).0 (node (n + i)) one two.e_in two.one in
      let second = no_third g edges web next four walks is_graph track meet e f (ends_at pairs j).1 (node (n + i)) one two.f_in two.two in
      let low = (listed i i_in).1 in
      let low_too = (listed j j_in).1 in
      let fst : (ends_at pairs i).0 ≡ (ends_at pairs j).0 = omega (arith, first, second, low, low_too) in
      let snd : (ends_at pairs i).1 ≡ (ends_at pairs j).1 = omega (arith, first, second, low, low_too) in
      crossings_apart n edges rise order (orders g edges web next four walks is_graph track meet).both_ways i j i_in j_in fst snd

  nodes_apart : (u w : ℕ) → u < total_nodes → w < total_nodes → node u ≡ node w → u ≡ w
  nodes_apart u w u_in w_in same = elim (name u u_in) [
    | inl a ↦ elim (name w w_in) [
      | inl b ↦ omega (arith, a.1, b.1, same)
      | inr (inl b) ↦ let high = mid_facts w b.0 b.1 b.2 in absurd (omega (arith, a, high.0, same))
      | inr (inr b) ↦ let high = lone_facts b.0 b.1 in absurd (omega (arith, a, high.0, b.3, same))
    ]
    | inr (inl a) ↦ elim (name w w_in) [
      | inl b ↦ let high = mid_facts u a.0 a.1 a.2 in absurd (omega (arith, b, high.0, same))
      | inr (inl b) ↦ let one = mid_apart a.0 b.0 a.1 b.1 (ap node (sym a.2) ∙ same ∙ ap node b.2) in omega (arith, a.2, b.2, one)
      | inr (inr b) ↦ absurd (both_ways _ (mid_facts u a.0 a.1 a.2).2 (ap (is_lone segs) (same ∙ b.3) ∙ (lone_facts b.0 b.1).2))
    ]
    | inr (inr a) ↦ elim (name w w_in) [
      | inl b ↦ let high = lone_facts a.0 a.1 in absurd (omega (arith, b, high.0, a.3, same))
      | inr (inl b) ↦ absurd (both_ways _ (mid_facts w b.0 b.1 b.2).2 (ap (is_lone segs) (sym same ∙ a.3) ∙ (lone_facts a.0 a.1).2))
      | inr (inr b) ↦ let one = positions_apart lones distinct_lones a.0 b.0 a.1 b.1 (sym a.3 ∙ same ∙ b.3) in omega (arith, a.2, b.2, one)
    ]
  ]

  lone_there : (w : ℕ) → w < web.nodes → is_lone segs w ≡ true → (v : ℕ) × (v < total_nodes) × (node v ≡ w)
  lone_there w w_in alone = elim (cases_lt w n) [
    | inl low ↦ (w, omega (arith, low), node_low w low)
    | inr high ↦
        let i = place_of lones w (has-kept (λ u. leb n u && is_lone segs u) (range_with_len 0 web.nodes) w (has-range web.nodes w w_in) (and_from _ _ (le-leb n w high) alone)) in
        (used + i.0, omega (arith, i.1), node_high i.0 ∙ i.2)
  ]

  -- ---- the runs

  -- a walk passes the seam x and no other walk meets it there
  pub record Free (x : ℕ) : Type 0 where
    pub at_node : ℕ
    pub seam : S x at_node
    pub free : stops seam.edge at_node ≡ false

  free_turns : (x : ℕ) → Free x → (turns (2 * x + 1) ≡ 2 * suc x) × (turns (2 * suc x) ≡ 2 * x + 1)
  free_turns x f = one_gap g edges web next four walks is_graph track x f.at_node f.seam (λ y other_seam. elim (cases_eq other_seam.edge f.seam.edge) [
    | inl same ↦
        let v = f.at_node in
        let P : ℕ → Type 0 = λ e. (other_seam.i < length (inner e)) × (at (inner e) other_seam.i ≡ v) in
        let here = subst P same (other_seam.i_in, other_seam.node) in
        let i = positions_apart (inner f.seam.edge) (meet.itself f.seam.edge f.seam.edge_is) other_seam.i f.seam.i here.0 f.seam.i_in (here.1 ∙ sym f.seam.node) in
        let s = ap start same in
        omega (arith, other_seam.x_is, f.seam.x_is, i, s)
    | inr differ ↦
        let e = f.seam.edge in
        let h = other_seam.edge in
        let one : has (inner e) f.at_node ≡ true = subst (λ z. has (inner e) z ≡ true) f.seam.node (has-at (inner e) f.seam.i f.seam.i_in) in
        let two : has (inner h) f.at_node ≡ true = subst (λ z. has (inner h) z ≡ true) other_seam.node (has-at (inner h) other_seam.i other_seam.i_in) in
        absurd (both_ways _ f.free (met_from g edges web next four walks is_graph track meet e h f.at_node (record { e_in = f.seam.edge_is; f_in = other_seam.edge_is; differ = λ same. differ (sym same); one = one; two = two })))
  ])

  free_inner : (x w : ℕ) → Free x → w < total_nodes → tail_of segs (2 * x + 1) ≢ node w
  free_inner x w f w_in at_w =
      let v = f.at_node in
      let e = f.seam.edge in
      let is_v : node w ≡ v = sym at_w ∙ (part_tails g edges web next four walks is_graph track x v f.seam).0 in
      let facts = seam_node x v f.seam in
      let at_v : has (inner e) v ≡ true = subst (λ z. has (inner e) z ≡ true) f.seam.node (has-at (inner e) f.seam.i f.seam.i_in) in
      elim (name w w_in) [
        | inl low ↦ omega (arith, low, is_v, facts.0)
        | inr (inr top) ↦ both_ways _ facts.2 (ap (is_lone segs) (sym is_v ∙ top.3) ∙ (lone_facts top.0 top.1).2)
        | inr (inl mid) ↦
            let i = mid.0 in
            let P : ℕ → Type 0 = λ z. Two (ends_at pairs i).0 (ends_at pairs i).1 z in
            let two = subst P (ap node (sym mid.2) ∙ is_v) (listed_two i mid.1) in
            let meets_it : (h : ℕ) → has edges h ≡ true → has (inner h) v ≡ true → h ≢ e → ⊥ = λ h h_in at_h differ.
            both_ways _ f.free (met_from g edges web next four walks is_graph track meet e h v (record { e_in = f.seam.edge_is; f_in = h_in; differ = λ same. differ (sym same); one = at_v; two = at_h })) in
            elim (cases_eq (ends_at pairs i).0 e) [
              | inr differ ↦ meets_it (ends_at pairs i).0 two.e_in two.one differ
              | inl same ↦ meets_it (ends_at pairs i).1 two.f_in two.two (λ again. two.differ (same ∙ sym again))
            ]
      ]

  abbrev runs_of : ℕ → List (ℕ × ℕ)
  runs_of e = runs_from (stops e) (start e) (start e) (inner e)

  abbrev runs : List (ℕ × ℕ)
  runs = flat_map runs_of edges

  seam_at : (e i : ℕ) → has edges e ≡ true → i < length (inner e) → S (start e + i) (at (inner e) i)
  seam_at e i e_in i_in = make_gap g edges web next four walks is_graph track meet e i (at (inner e) i) e_in i_in refl

  size_of_walk : (e : ℕ) → has edges e ≡ true → length (walks e) ≡ suc (length (inner e))
  size_of_walk e e_in = size_is g edges web next four walks is_graph track e e_in

  chained : Chained Free 0 runs (length segs)
  chained = chained_all Free walks runs_of edges (distinct-rising edges rise) 0 (length segs)
      (let size = part_size g edges web next four walks is_graph track in omega (arith, size))
      (λ e e_in.
      let here : 0 + start e ≡ start e = omega arith in
      let C : ℕ → Type 0 = λ o. Chained Free o (runs_of e) (o + length (walks e)) in
      subst C (sym here) (chained_runs Free (stops e) (inner e) (start e) (start e) (start e + length (walks e)) (omega arith)
      (let size = size_of_walk e e_in in omega (arith, size))
      (λ x low high. absurd (omega (arith, low, high)))
      (λ i i_in fails. record { at_node = at (inner e) i; seam = record { edge = e; edge_is = e_in; i = i; i_in = i_in; x_is = refl; node = refl }; free = fails })))

  abbrev Starts : ℕ → ℕ → Type 0
  Starts x w = tail_of segs (2 * x) ≡ node w

  abbrev Stops : ℕ → ℕ → Type 0
  Stops x w = tail_of segs (2 * x + 1) ≡ node w

  abbrev mid_of : ℕ → ℕ → ℕ
  mid_of e v = crossing_node n pairs e (partner e v)

  stop_node : (e i : ℕ) → has edges e ≡ true → i < length (inner e) → stops e (at (inner e) i) ≡ true →
      (mid_of e (at (inner e) i) < used) × (node (mid_of e (at (inner e) i)) ≡ at (inner e) i)
  stop_node e i e_in i_in h =
      let v = at (inner e) i in
      number e (partner e v) v (other_meets g edges web next four walks is_graph track meet e v e_in (has-at (inner e) i i_in) h)

  match_edge : (e : ℕ) → has edges e ≡ true → Match Starts Stops (runs_of e) (segments_of g pairs order e)
  match_edge e e_in =
      let u = (ends_at g.ends e).0 in
      let w = (ends_at g.ends e).1 in
      let low = ends_below g edges web next four walks is_graph track e e_in in
      let size = size_of_walk e e_in in
      let names : map (crossing_node n pairs e) (order e) ≡ map (mid_of e) (filter (stops e) (inner e)) =
      ap (map (crossing_node n pairs e)) (ord_is g edges web next four walks is_graph track meet e e_in) ∙ map-map (crossing_node n pairs e) (partner e) (filter (stops e) (inner e)) in
      let M : List ℕ → Type 0 = λ mids. Match Starts Stops (runs_of e) (segments_through u mids w) in
      subst M (sym names) (match_runs Starts Stops (stops e) (mid_of e) (inner e) (start e) (start e) u w
      (track_first g edges web next four walks is_graph track e e_in ∙ sym (node_low u low.0))
      (λ i i_in h.
      let v = at (inner e) i in
      let tails = part_tails g edges web next four walks is_graph track (start e + i) v (seam_at e i e_in i_in) in
      let is = stop_node e i e_in i_in h in
      (tails.0 ∙ sym is.1, tails.1 ∙ sym is.1))
      (track_last g edges web next four walks is_graph track e e_in (length (inner e)) size ∙ sym (node_low w low.1)))

  matched : Match Starts Stops runs drawn.ends
  matched = match_all Starts Stops runs_of (segments_of g pairs order) edges match_edge

  abbrev first : ℕ → ℕ
  first j = (ends_at runs j).0

  abbrev last : ℕ → ℕ
  last j = (ends_at runs j).1

  as_long : length runs ≡ length drawn.ends
  as_long = match-length Starts Stops runs drawn.ends matched

  ends_used : EndsIn used drawn.ends
  ends_used = ends-flat_map used (segments_of g pairs order) edges (λ e e_in.
      let low = ends_below g edges web next four walks is_graph track e e_in in
      ends-through used (ends_at g.ends e).0 (ends_at g.ends e).1 (crossing_node n pairs e) (order e)
      (λ f f_in. let m = in_ord g edges web next four walks is_graph track meet e f f_in in (number e f m.0 m.1).0)
      (omega (arith, low.0)) (omega (arith, low.1)))

  cutting : IsCutting web.nodes segs turns total_nodes drawn.ends first last node
  cutting = record {
    ends_in = ends-more used total_nodes drawn.ends (omega arith) ends_used;
    rise = λ j j_in. (chained_at Free 0 runs (length segs) chained j (omega (arith, j_in, as_long))).rise;
    below = λ j j_in. (chained_at Free 0 runs (length segs) chained j (omega (arith, j_in, as_long))).below;
    covers = λ s s_in.
        let c = chained_covers Free 0 runs (length segs) chained s (omega arith) s_in in
        (c.0, omega (arith, c.1, as_long), c.2, c.3);
    apart = λ i j s i_in j_in. chained_apart Free 0 runs (length segs) chained i j s (omega (arith, i_in, as_long)) (omega (arith, j_in, as_long));
    inside = λ j s j_in low high. free_turns s ((chained_at Free 0 runs (length segs) chained j (omega (arith, j_in, as_long))).inside s low high);
    nodes_in = nodes_in;
    nodes_apart = nodes_apart;
    starts = λ j j_in. (match_at Starts Stops runs drawn.ends matched j j_in).0 ∙ ap node (sym (tail-even drawn.ends j));
    stops = λ j j_in. (match_at Starts Stops runs drawn.ends matched j j_in).1 ∙ ap node (sym (tail-odd drawn.ends j));
    inner = λ j s w j_in low high w_in. free_inner s w ((chained_at Free 0 runs (length segs) chained j (omega (arith, j_in, as_long))).inside s low high) w_in;
    lone = lone_there;
  }

  -- ---- the drawing

  pub cut : (after : ℕ → ℕ) × IsMap total_nodes drawn.ends after × MeetsEuler total_nodes drawn.ends after × TurnsAsRuns turns (length drawn.ends) first last after
  cut = cutting_leaves_a_map web.nodes total_nodes segs drawn.ends turns first last node the_map (part_flat g edges web next four walks is_graph track) cutting

  flat_drawn : IsFlat drawn cut.0
  flat_drawn =
      let alone = used_alone used (length lones) drawn.ends cut.0 ends_used cut.1 cut.2 in
      record { is_map = alone.0; flat = alone.1 }

  abbrev Turned : ℕ → Type 0
  Turned x = turns (turns (2 * x + 1)) ≡ 2 * suc x

  crosses : (e f : ℕ) → has (order e) f ≡ true → CrossesAt edges order cut.0 e f
  crosses e f h =
      let m = (in_ord g edges web next four walks is_graph track meet e f h).1 in
      let e_in = m.e_in in
      let p = position_in (order e) f in
      let size : length (order e) ≡ length (filter (stops e) (inner e)) = ap length (ord_is g edges web next four walks is_graph track meet e e_in) ∙ length-map (filter (stops e) (inner e)) (partner e) in
      let low : p < length (order e) = position_below (order e) f h in
      let runs_size : (x : ℕ) → has edges x ≡ true → length (runs_of x) ≡ suc (length (order x)) = λ x x_in.
      runs-length (stops x) (inner x) (start x) (start x) ∙ ap suc (sym (ap length (ord_is g edges web next four walks is_graph track meet x x_in) ∙ length-map (filter (stops x) (inner x)) (partner x))) in
      let place_is : place (size_of runs_of) edges e ≡ first_segment edges order e =
      place-same (size_of runs_of) (λ x. suc (length (order x))) edges e runs_size ∙ place-first_segment order edges e in
      let before = first_segment edges order e + p in
      let long = runs_size e e_in in
      let here : ends_at runs before ≡ ends_at (runs_of e) p =
      ap (λ k. ends_at runs (k + p)) (sym place_is) ∙ at_place runs_of edges e p (0, 0) e_in (omega (arith, low, long)) in
      let on : place (size_of runs_of) edges e + suc p ≡ before + 1 = omega (arith, place_is) in
      let there : ends_at runs (before + 1) ≡ ends_at (runs_of e) (suc p) =
      ap (ends_at runs) (sym on) ∙ at_place runs_of edges e (suc p) (0, 0) e_in (omega (arith, low, long)) in
      let next_in : before + 1 < length drawn.ends =
      let inside = place_in runs_of edges e (suc p) e_in (omega (arith, low, long)) in omega (arith, inside, on, as_long) in
      let seam = runs_seams Turned (stops e) (inner e) (start e) (start e)
      (λ i i_in stops_it.
      let v = at (inner e) i in
      let two = other_meets g edges web next four walks is_graph track meet e v e_in (has-at (inner e) i i_in) stops_it in
      cross_here e i v e_in i_in refl two)
      p (omega (arith, low, size)) in
      let x = 2 * before + 1 in
      let y = 2 * (before + 1) in
      let x_in : x < 2 * length drawn.ends = omega (arith, next_in) in
      let y_in : y < 2 * length drawn.ends = omega (arith, next_in) in
      let is_x : run_dart first last x ≡ 2 * (ends_at (runs_of e) p).1 + 1 = run_odd first last before ∙ ap (λ r. 2 * r.1 + 1) here in
      let is_y : run_dart first last y ≡ 2 * suc (ends_at (runs_of e) p).1 = run_even first last (before + 1) ∙ ap (λ r. 2 * r.0) there ∙ ap (λ k. 2 * k) seam.0 in
      let t = cut.3 in
      t.from (cut.0 x) y (t.below x x_in) y_in (ap turns (t.turns x x_in) ∙ ap (λ d. turns (turns d)) is_x ∙ seam.1 ∙ sym is_y)
    where
      cross_here : (e i v : ℕ) (e_in : has edges e ≡ true) (i_in : i < length (inner e)) (at_v : at (inner e) i ≡ v) → Two e (partner e v) v → Turned (start e + i)
      cross_here e i v e_in i_in at_v two =
          let f = partner e v in
          let j = place_of (inner f) v two.two in
          let one = make_gap g edges web next four walks is_graph track meet e i v e_in i_in at_v in
          let another = make_gap g edges web next four walks is_graph track meet f j.0 v two.f_in j.1 j.2 in
          (two_gaps g edges web next four walks is_graph track (start e + i) (start f + j.0) v one another
          (starts_apart g edges web next four walks is_graph track meet e f i j.0 e_in two.f_in two.differ i_in j.1)).cross

  crossed_four : (i : ℕ) → i < length pairs → four (node (n + i)) ≡ true
  crossed_four i i_in =
      let s = two_seams g edges web next four walks is_graph track meet (ends_at pairs i).0 (ends_at pairs i).1 (node (n + i)) (listed_two i i_in) in
      (two_gaps g edges web next four walks is_graph track s.0 s.1 (node (n + i)) s.2 s.3 s.4).four_is

  no_more : length pairs ≤ count_below web.nodes four
  no_more =
      let few = count_injects (length pairs) web.nodes (λ i. true) four (λ i v. (i < length pairs) × (node (n + i) ≡ v))
      (λ i i_in h. (node (n + i), nodes_in (n + i) (omega (arith, i_in)), crossed_four i i_in, (i_in, refl)))
      (λ i j v i_in j_in one two. mid_apart i j one.0 two.0 (one.1 ∙ sym two.1)) in
      omega (arith, few, count-all (length pairs))

  pub drawing : IsDrawingOfEdges g edges order cut.0
  drawing = record {
    orders = orders g edges web next four walks is_graph track meet;
    is_flat_map = flat_drawn;
    crosses = λ e f low h. crosses e f h;
  }

  pub tidied : (after : ℕ → ℕ) × IsDrawingOfEdges g edges order after × (length pairs ≤ count_below web.nodes four)
  tidied = (cut.0, drawing, no_more)

pub tracks_that_meet_simply_are_drawings : TracksThatMeetSimplyAreDrawings
tracks_that_meet_simply_are_drawings g edges web next four walks is_graph track meet = tidied g edges web next four walks is_graph track meet
