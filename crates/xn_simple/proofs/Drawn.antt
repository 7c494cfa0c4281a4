-- The darts at the ends and the crossings of the edges turn as the map does, and that is a drawing.
use Rattle.std.proofs.Common.{◌≡◌, ℕ, zero, suc, ◌+◌, ◌*◌, ◌<◌, ◌≤◌, inl, inr, Bool, true, List, [], ◌∷◌, length, sym, ◌∙◌, ap, subst, arith, length-append}
use Rattle.std.specs.List.{IsDistinct, flat_map}
use Rattle.std.specs.Prelude.{nat_eq}
use Rattle.xn_model.specs.Graph.{Graph, IsGraph, ends_at}
use Rattle.xn_model.specs.Lists.{at, has}
use Rattle.xn_model.specs.Map.{IsFlat, reverse_of}
use Rattle.xn_model.specs.Orders.{IsOrders, crossings_of}
use Rattle.xn_model.specs.Web.{first_segment, segments_of, web_of}
use Rattle.xn_model.proofs.Darts.{cases_dart, reverse-even}
use Rattle.xn_genus.specs.Part.{dart_along, ends_along}
use Rattle.xn_genus.proofs.Part.{passes_over}
use Rattle.xn_ring.proofs.Orbits.{source_of}
use Rattle.xn_fewer.proofs.Has.{has-first, has-later}
use Rattle.xn_fewer.proofs.Rising.{distinct-rising, rising-from_increasing}
use Rattle.xn_orders.proofs.Limits.{length-segments_of}
use Rattle.xn_track.specs.Cutting.{TurnsAsRuns, run_dart}
use Rattle.xn_track.specs.Tidying.{IsDrawingOfEdges, is_met, order_along}
use Rattle.xn_track.specs.Track.{IsTrack, MeetSimply, passed}
use Rattle.xn_track.proofs.Blocks.{at_place, found_at}
use Rattle.xn_track.proofs.Passes.{along_even, along_odd, begin, is_part, over_step, part_size, turn}
use Rattle.xn_track.proofs.Runs.{runs_from}
use Rattle.xn_track.proofs.Tidy.{cut, drawing, tidied}
use Rattle.xn_general.specs.Webs.{walk_in_web}
use Rattle.xn_general.proofs.Webs.{W-length, all_at}
use Rattle.xn_simple.specs.Crossed.{crossed_from, starts_along}
use Rattle.xn_simple.specs.Turning.{AreStarts, TurnsAlong}
use Rattle.xn_simple.specs.Untouched.{IsUntouched, TouchingEdgesComeApart, starts_in}
use Rattle.xn_simple.proofs.Agreeing.{drawing-agrees}
use Rattle.xn_simple.specs.Loosened.{ComesFrom}
use Rattle.xn_simple.proofs.Lists.{darts_of_all, darts_of_runs, each_along, run_at, runs_along, starts_after-length}
use Rattle.xn_simple.proofs.WalksApart.{begins, ends_stand, inner_length, order_same, simply, smoothed, straight_stands, test_is}

flat_map-length : {A B : Type 0} (f : ℕ → List A) (h : ℕ → List B) (k : ℕ) (es : List ℕ) → ((e : ℕ) → has es e ≡ true → length (f e) ≡ k * length (h e)) →
    length (flat_map f es) ≡ k * length (flat_map h es)
flat_map-length f h k [] same = omega arith
flat_map-length f h k (e ∷ es) same =
    let one = length-append (f e) (flat_map f es) in
    let two = length-append (h e) (flat_map h es) in
    let here = same e (has-first e es) in
    let rest = flat_map-length f h k es (λ x x_in. same x (has-later e es x x_in)) in
    one ∙ sum k (length (h e)) (length (flat_map h es)) here rest ∙ ap (λ m. k * m) (sym two)
  where
    sum : (k a b : ℕ) {c d : ℕ} → c ≡ k * a → d ≡ k * b → c + d ≡ k * (a + b)
    sum zero a b one two = omega (arith, one, two)
    sum (suc k) a b one two = omega (arith, one, two)

module _ (g : Graph) (edges : List ℕ) (ord : ℕ → List ℕ) (next : ℕ → ℕ) (is_graph : IsGraph g) (orders : IsOrders g.ends edges ord)
    (flat : IsFlat (web_of g edges ord) next) where
  abbrev web : Graph
  web = web_of g edges ord

  abbrev F : ℕ → ℕ
  F = first_segment edges ord

  abbrev W : ℕ → List ℕ
  W = walk_in_web edges ord

  abbrev more : Graph
  more = (smoothed g edges ord next is_graph orders flat).web

  abbrev after : ℕ → ℕ
  after = (smoothed g edges ord next is_graph orders flat).next

  abbrev four : ℕ → Bool
  four = (smoothed g edges ord next is_graph orders flat).four

  abbrev kept : ComesFrom g.nodes web next more after four
  kept = (smoothed g edges ord next is_graph orders flat).kept

  abbrev track : IsTrack g edges more after four W
  track = (smoothed g edges ord next is_graph orders flat).track

  abbrev simple : MeetSimply g edges more.ends W
  simple = simply g edges ord next is_graph orders flat

  abbrev along : ℕ → List ℕ
  along = order_along edges more.ends W

  abbrev drawn : Graph
  drawn = web_of g edges along

  abbrev starts : List ℕ
  starts = starts_in edges ord next

  distinct : IsDistinct nat_eq edges
  distinct = distinct-rising edges (rising-from_increasing edges orders.edge_list.rise)

  -- ---- how many there are

  starts_long : length starts ≡ 2 * length drawn.ends
  starts_long = flat_map-length (λ e. starts_along next (F e) (ord e)) (segments_of g (crossings_of edges along) along) 2 edges (λ e e_in.
      let one = starts_after-length next (F e) (ord e) in
      let two = length-segments_of g (crossings_of edges along) along e in
      let three : length (along e) ≡ length (crossed_from next (F e) (ord e)) = ap (λ o. length (o e)) (order_same g edges ord next is_graph orders flat) in
      omega (arith, one, two, three))

  walks_long : length (flat_map W edges) ≡ length web.ends
  walks_long =
      let same = flat_map-length W (segments_of g (crossings_of edges ord) ord) 1 edges (λ e e_in.
      let one = W-length g edges ord next is_graph orders flat e in
      let two = length-segments_of g (crossings_of edges ord) ord e in
      omega (arith, one, two)) in
      omega (arith, same)

  -- ---- they are the darts at which the runs of the walks start

  abbrev runs : List (ℕ × ℕ)
  runs = flat_map (λ e. runs_from (is_met edges more.ends W e) (begin g edges more after four W is_graph track e) (begin g edges more after four W is_graph track e) (passed more.ends (W e))) edges

  abbrev first : ℕ → ℕ
  first j = (ends_at runs j).0

  abbrev last : ℕ → ℕ
  last j = (ends_at runs j).1

  starts_are : darts_of_runs runs ≡ starts
  starts_are = darts_of_all _ (λ e. starts_along next (F e) (ord e)) edges (λ e e_in.
      ap (λ k. darts_of_runs (runs_from (is_met edges more.ends W e) k k (passed more.ends (W e)))) (begins g edges ord next is_graph orders flat e)
      ∙ runs_along next (is_met edges more.ends W e) (passed more.ends (W e)) (ord e) (F e) (F e) (inner_length g edges ord next is_graph orders flat e)
      (λ i i_in. test_is g edges ord next is_graph orders flat e i e_in i_in))

  start_is : (x : ℕ) → x < length starts → at starts x ≡ run_dart first last x
  start_is x x_in = ap (λ l. at l x) (sym starts_are) ∙ run_at runs x (let same = ap length starts_are in omega (arith, x_in, same))

  -- ---- each of them turns as in the map

  abbrev Fine : ℕ → Type 0
  Fine d = (d < 2 * length web.ends) × (after d ≡ next d)

  start_fine : (x : ℕ) → x < length starts → Fine (at starts x)
  start_fine x x_in =
      let f = found_at (λ e. starts_along next (F e) (ord e)) edges distinct x x_in in
      let e = f.0 in
      subst Fine (sym (ap (at starts) f.4 ∙ at_place (λ e. starts_along next (F e) (ord e)) edges e f.2 0 f.1 f.3))
      (each_along next Fine (F e) (ord e) (ends_stand g edges ord next is_graph orders flat e f.1).0
      (λ i i_in straight. straight_stands g edges ord next is_graph orders flat e i f.1 i_in straight)
      (ends_stand g edges ord next is_graph orders flat e f.1).1 f.2 f.3)

  spot_is : (d : ℕ) → d < 2 * length web.ends → dart_along (flat_map W edges) d ≡ d
  spot_is d d_in =
      let all = flat_map W edges in
      let c = cases_dart d in
      let s_in : c.0 < length all = omega (arith, d_in, c.1, walks_long) in
      let here = all_at g edges ord next is_graph orders flat c.0 s_in in
      elim c.1 [
        | inl even ↦ ap (dart_along all) even ∙ along_even all c.0 ∙ here ∙ sym even
        | inr odd ↦ ap (dart_along all) odd ∙ along_odd all c.0 ∙ ap reverse_of here ∙ reverse-even c.0 ∙ sym odd
      ]

  turn_is : (x : ℕ) → x < length starts → turn g edges more after four W is_graph track (at starts x) ≡ next (at starts x)
  turn_is x x_in =
      let all = flat_map W edges in
      let d = at starts x in
      let fine = start_fine x x_in in
      let on : next d < 2 * length web.ends = flat.is_map.permutes.below d fine.0 in
      let size = part_size g edges more after four W is_graph track in
      over_step (2 * length (ends_along more.ends all)) (dart_along all) after (turn g edges more after four W is_graph track)
      (passes_over more.nodes more.ends (ends_along more.ends all) (dart_along all) after track.ground.is_flat_map.is_map (is_part g edges more after four W is_graph track)).1
      (is_part g edges more after four W is_graph track).apart d (next d)
      (let low = fine.0 in omega (arith, low, size, walks_long)) (omega (arith, on, size, walks_long))
      (ap after (spot_is d fine.0) ∙ fine.1 ∙ sym (spot_is (next d) on))

  abbrev now : ℕ → ℕ
  now = (cut g edges more after four W is_graph track simple).0

  abbrev now_turns : TurnsAsRuns (turn g edges more after four W is_graph track) (length drawn.ends) first last now
  now_turns = (cut g edges more after four W is_graph track simple).3

  there : (x : ℕ) → x < length starts → x < 2 * length drawn.ends
  there x x_in = omega (arith, x_in, starts_long)

  here_is : (x : ℕ) → x < 2 * length drawn.ends → x < length starts
  here_is x x_in = omega (arith, x_in, starts_long)

  leads : (x : ℕ) → x < length starts → at starts (now x) ≡ next (at starts x)
  leads x x_in =
      let low = now_turns.below x (there x x_in) in
      start_is (now x) (here_is (now x) low) ∙ now_turns.turns x (there x x_in) ∙ ap (turn g edges more after four W is_graph track) (sym (start_is x x_in)) ∙ turn_is x x_in

  -- what leads there comes next
  comes : (x y : ℕ) → x < length starts → y < length starts → next (at starts x) ≡ at starts y → now x ≡ y
  comes x y x_in y_in on =
      now_turns.from x y (there x x_in) (there y y_in)
      (ap (turn g edges more after four W is_graph track) (sym (start_is x x_in)) ∙ turn_is x x_in ∙ on ∙ start_is y y_in)

  apart : (x y : ℕ) → x < length starts → y < length starts → at starts x ≡ at starts y → x ≡ y
  apart x y x_in y_in same =
      let z = source_of (2 * length drawn.ends) now (drawing g edges more after four W is_graph track simple).is_flat_map.is_map.permutes x (there x x_in) in
      let z_in = here_is z.0 z.1 in
      sym z.2 ∙ comes z.0 y z_in y_in (sym (leads z.0 z_in) ∙ ap (at starts) z.2 ∙ same)

  are_starts : AreStarts (2 * length web.ends) next starts
  are_starts = record {
    below = λ x x_in. (start_fine x x_in).0;
    apart = apart;
    closed = λ x x_in. (now x, here_is (now x) (now_turns.below x (there x x_in)), leads x x_in);
  }

  drawn_along : (turns : List ℕ) → TurnsAlong next starts turns → IsDrawingOfEdges g edges along (at turns)
  drawn_along turns t = drawing-agrees g edges along now (at turns) is_graph (drawing g edges more after four W is_graph track simple) (λ x x_in.
      let x_low = here_is x x_in in
      sym (comes x (at turns x) x_low (t.below x x_low) (sym (t.leads x x_low))))

  few : length (crossings_of edges along) ≤ length (crossings_of edges ord)
  few =
      let one = (tidied g edges more after four W is_graph track simple).2 in
      let two = (smoothed g edges ord next is_graph orders flat).few in
      omega (arith, one, two)

  pub untouched : IsUntouched g edges ord next
  untouched =
      let P : (ℕ → List ℕ) → Type 0 = λ o. (length starts ≡ 2 * length (web_of g edges o).ends)
      × ((turns : List ℕ) → TurnsAlong next starts turns → IsDrawingOfEdges g edges o (at turns))
      × (length (crossings_of edges o) ≤ length (crossings_of edges ord)) in
      let all = subst P (order_same g edges ord next is_graph orders flat) (starts_long, drawn_along, few) in
      record { starts = are_starts; size = all.0; drawing = all.1; no_more = all.2 }

pub touching_edges_come_apart : TouchingEdgesComeApart
touching_edges_come_apart g edges ord next is_graph orders flat = untouched g edges ord next is_graph orders flat
