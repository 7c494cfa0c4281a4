-- Walks that meet simply at the nodes that are still named, over a map that stays as it is, are a drawing.
use Rattle.std.proofs.Common.{◌≡◌, ℕ, zero, suc, ◌+◌, ◌*◌, ◌<◌, ◌≤◌, ◌⊎◌, inl, inr, Bool, true, List, [], ◌∷◌, ◌++◌, length, map, refl, sym, ◌∙◌, ap, ap₂, subst, arith, length-append}
use Rattle.std.specs.List.{flat_map}
use Rattle.std.specs.Prelude.{filter}
use Rattle.std.proofs.lemmas.Bool.{and_parts, cases_order, cond-true}
use Rattle.std.proofs.lemmas.List.{length-map, map-append}
use Rattle.xn_model.specs.Graph.{Graph, IsGraph, ends_at}
use Rattle.xn_model.specs.Lists.{at, has}
use Rattle.xn_model.specs.Map.{IsMap, reverse_of, tail_of}
use Rattle.xn_model.specs.Orders.{crossings_of}
use Rattle.xn_model.specs.Permutation.{count_below, iterate}
use Rattle.xn_model.specs.Web.{segments_of, web_of}
use Rattle.xn_model.proofs.Darts.{reverse_below}
use Rattle.xn_genus.specs.Part.{ComesFirst, PassesOver, dart_along, ends_along}
use Rattle.xn_genus.proofs.Part.{passes_over}
use Rattle.xn_ring.proofs.Counting.{count_injects}
use Rattle.xn_ring.proofs.Orbits.{source_of}
use Rattle.xn_fewer.proofs.Has.{has-first, has-later}
use Rattle.xn_orders.proofs.Limits.{length-segments_of}
use Rattle.xn_track.specs.Cutting.{TurnsAsRuns, run_dart}
use Rattle.xn_track.specs.Tidying.{IsDrawingOfEdges, is_met, order_along, other_at}
use Rattle.xn_track.specs.Track.{IsTrack, MeetSimply, passed}
use Rattle.xn_track.proofs.Blocks.{at_place, found_at, place_in}
use Rattle.xn_track.proofs.Passes.{begin, distinct_edges, ends_below, is_part, part_size, some_darts, turn, along_even, along_odd, walk_first, walk_last, walk_seam}
use Rattle.xn_track.proofs.Runs.{runs_from}
use Rattle.xn_track.proofs.Tidy.{cut, drawing, tidied}
use Rattle.xn_general.proofs.InWeb.{at-map}
use Rattle.xn_simple.specs.Loosened.{ComesFrom, IsLoosened}
use Rattle.xn_simple.specs.Tidied.{IsTidied, LoosenedWalksAreDrawings, MeetSimplyAt, is_crossed, order_by_walks, starts_by_walks, starts_past, walk_starts}
use Rattle.xn_simple.proofs.Agreeing.{drawing-agrees}
use Rattle.xn_simple.proofs.Apart.{named}
use Rattle.xn_simple.proofs.Lists.{darts_of_runs, darts_of_runs-append, run_at}
use Rattle.xn_simple.proofs.MeetAgain.{dart_in as dart_in_again, inner_at as inner_at_again, order_same as order_same_again, simply as simply_again, spot_at as spot_at_again, test_is as test_is_again, to_spot as to_spot_again, walk_size as walk_size_again}
use Rattle.xn_simple.proofs.Picked.{all_runs_below, each_past, runs_below, runs_past, starts_past-length}

module _ (g : Graph) (edges : List ℕ) (web : Graph) (next : ℕ → ℕ) (four : ℕ → Bool) (walks : ℕ → List ℕ) (is_graph : IsGraph g)
    (nodes_in : g.nodes ≤ web.nodes) (old_map : IsMap web.nodes web.ends next) (state : IsLoosened g edges web next four walks)
    (meet : MeetSimplyAt g edges web.ends four walks) where
  abbrev more : Graph
  more = state.more

  abbrev after : ℕ → ℕ
  after = state.after

  abbrev kept : ComesFrom g.nodes web next more after four
  kept = state.comes

  abbrev track : IsTrack g edges more after four walks
  track = state.track

  abbrev inner : ℕ → List ℕ
  inner e = passed web.ends (walks e)

  abbrev spots : ℕ → List ℕ
  spots e = passed more.ends (walks e)

  dart_in : (e i : ℕ) → has edges e ≡ true → i < length (walks e) → at (walks e) i < 2 * length web.ends
  dart_in = dart_in_again g edges web next four walks is_graph nodes_in old_map state meet

  walk_size : (e : ℕ) → has edges e ≡ true → length (walks e) ≡ suc (length (spots e))
  walk_size = walk_size_again g edges web next four walks is_graph nodes_in old_map state meet

  spot_at : (e i : ℕ) → has edges e ≡ true → i < length (spots e) → at (spots e) i ≡ tail_of more.ends (at (walks e) (suc i))
  spot_at = spot_at_again g edges web next four walks is_graph nodes_in old_map state meet

  inner_at : (e i : ℕ) → has edges e ≡ true → i < length (spots e) → at (inner e) i ≡ tail_of web.ends (at (walks e) (suc i))
  inner_at = inner_at_again g edges web next four walks is_graph nodes_in old_map state meet

  to_spot : (e i v : ℕ) → has edges e ≡ true → i < length (spots e) → four v ≡ true → at (inner e) i ≡ v → at (spots e) i ≡ v
  to_spot = to_spot_again g edges web next four walks is_graph nodes_in old_map state meet

  abbrev simply : MeetSimply g edges more.ends walks
  simply = simply_again g edges web next four walks is_graph nodes_in old_map state meet

  abbrev met_spot : ℕ → ℕ → Bool
  met_spot = is_met edges more.ends walks

  abbrev crossed : ℕ → ℕ → Bool
  crossed = is_crossed edges web.ends four walks

  test_is : (e i : ℕ) → has edges e ≡ true → i < length (spots e) → met_spot e (at (spots e) i) ≡ crossed e (at (inner e) i)
  test_is = test_is_again g edges web next four walks is_graph nodes_in old_map state meet

  order_same : order_along edges more.ends walks ≡ order_by_walks edges web.ends four walks
  order_same = order_same_again g edges web next four walks is_graph nodes_in old_map state meet

  -- ---- the darts at which the runs start

  abbrev all : List ℕ
  all = flat_map walks edges

  abbrev spot : ℕ → ℕ
  spot = dart_along all

  abbrev start : ℕ → ℕ
  start = begin g edges more after four walks is_graph track

  abbrev starts : List ℕ
  starts = starts_by_walks edges web.ends four walks

  abbrev runs_of : ℕ → List (ℕ × ℕ)
  runs_of e = runs_from (met_spot e) (start e) (start e) (spots e)

  abbrev runs : List (ℕ × ℕ)
  runs = flat_map runs_of edges

  abbrev first : ℕ → ℕ
  first j = (ends_at runs j).0

  abbrev last : ℕ → ℕ
  last j = (ends_at runs j).1

  walk_forth : (e i : ℕ) → has edges e ≡ true → i < length (walks e) → spot (2 * (start e + i)) ≡ at (walks e) i
  walk_forth e i e_in i_in = along_even all (start e + i) ∙ at_place walks edges e i 0 e_in i_in

  walk_back : (e i : ℕ) → has edges e ≡ true → i < length (walks e) → spot (2 * (start e + i) + 1) ≡ reverse_of (at (walks e) i)
  walk_back e i e_in i_in = along_odd all (start e + i) ∙ ap reverse_of (at_place walks edges e i 0 e_in i_in)

  runs_are : (e : ℕ) → has edges e ≡ true → map spot (darts_of_runs (runs_of e)) ≡ walk_starts web.ends (crossed e) (walks e)
  runs_are e e_in = go (walks e) refl
    where
      go : (ds : List ℕ) → walks e ≡ ds → map spot (darts_of_runs (runs_from (met_spot e) (start e) (start e) (passed more.ends ds))) ≡ walk_starts web.ends (crossed e) ds
      go [] is = let some = some_darts g edges more after four walks is_graph track e e_in in absurd (omega (arith, some, ap length is))
      go (d ∷ ds) is =
          let long = ap length is in
          let fit : (i : ℕ) → i ≤ length ds → i < length (walks e) = λ i i_in. omega (arith, i_in, long) in
          let size = walk_size e e_in in
          let zero_in : 0 < length (walks e) = omega (arith, size) in
          let z : 2 * (start e + 0) ≡ 2 * start e = omega arith in
          runs_past spot web.ends (tail_of more.ends) (met_spot e) (crossed e) (start e) (start e) d ds
          (λ j j_in. walk_back e j e_in (fit j j_in) ∙ ap (λ l. reverse_of (at l j)) is)
          (λ j j_in. walk_forth e j e_in (fit j j_in) ∙ ap (λ l. at l j) is)
          (λ j j_in.
          let j_low : j < length (spots e) = omega (arith, j_in, long, size) in
          ap (met_spot e) (sym (spot_at e j e_in j_low ∙ ap (λ l. tail_of more.ends (at l (suc j))) is))
          ∙ test_is e j e_in j_low
          ∙ ap (crossed e) (inner_at e j e_in j_low ∙ ap (λ l. tail_of web.ends (at l (suc j))) is))
          ∙ ap (λ x. x ∷ starts_past web.ends (crossed e) d ds) (ap spot (sym z) ∙ walk_forth e 0 e_in zero_in ∙ ap (λ l. at l 0) is)

  starts_are : map spot (darts_of_runs runs) ≡ starts
  starts_are = go edges (λ e e_in. runs_are e e_in)
    where
      go : (es : List ℕ) → ((e : ℕ) → has es e ≡ true → map spot (darts_of_runs (runs_of e)) ≡ walk_starts web.ends (crossed e) (walks e)) →
          map spot (darts_of_runs (flat_map runs_of es)) ≡ flat_map (λ e. walk_starts web.ends (crossed e) (walks e)) es
      go [] same = refl
      go (e ∷ es) same =
          ap (map spot) (darts_of_runs-append (runs_of e) (flat_map runs_of es)) ∙ map-append spot (darts_of_runs (runs_of e)) (darts_of_runs (flat_map runs_of es))
          ∙ ap₂ (λ xs ys. xs ++ ys) (same e (has-first e es)) (go es (λ x x_in. same x (has-later e es x x_in)))

  start_is : (x : ℕ) → x < length starts → at starts x ≡ spot (run_dart first last x)
  start_is x x_in =
      let long : x < length (darts_of_runs runs) = let same = ap length starts_are in let size = length-map (darts_of_runs runs) spot in omega (arith, x_in, same, size) in
      ap (λ l. at l x) (sym starts_are) ∙ at-map spot (darts_of_runs runs) x long ∙ ap spot (run_at runs x long)

  -- ---- each of them stands at a node where the old map turns as the new one

  abbrev Fine : ℕ → Type 0
  Fine d = (d < 2 * length web.ends) × ((tail_of web.ends d < g.nodes) ⊎ (four (tail_of web.ends d) ≡ true))

  at_end : (d : ℕ) → d < 2 * length web.ends → tail_of more.ends d < g.nodes → Fine d
  at_end d d_in low = (
    d_in,
    inl (elim (kept.tails d d_in) [
      | inl same ↦ omega (arith, same, low)
      | inr new ↦ let high = new.0 in absurd (omega (arith, high, low, nodes_in))
    ]),
  )

  start_fine : (x : ℕ) → x < length starts → Fine (at starts x)
  start_fine x x_in =
      let f = found_at (λ e. walk_starts web.ends (crossed e) (walks e)) edges (distinct_edges g edges more after four walks is_graph track) x x_in in
      subst Fine (sym (ap (at starts) f.4 ∙ at_place (λ e. walk_starts web.ends (crossed e) (walks e)) edges f.0 f.2 0 f.1 f.3)) (along f.0 f.1 (walks f.0) refl f.2 f.3)
    where
      along : (e : ℕ) (e_in : has edges e ≡ true) (ds : List ℕ) → walks e ≡ ds → (x : ℕ) → x < length (walk_starts web.ends (crossed e) ds) → Fine (at (walk_starts web.ends (crossed e) ds) x)
      along e e_in [] is x x_in = absurd (omega (arith, x_in))
      along e e_in (d ∷ ds) is zero x_in =
          let some = some_darts g edges more after four walks is_graph track e e_in in
          let low = ends_below g edges more after four walks is_graph track e e_in in
          let at_it = walk_first more.ends _ _ (walks e) (track.lead e e_in) some in
          subst Fine (ap (λ l. at l 0) is) (at_end (at (walks e) 0) (dart_in e 0 e_in some) (omega (arith, at_it, low.0)))
      along e e_in (d ∷ ds) is (suc x) x_in =
          let long = ap length is in
          let size = walk_size e e_in in
          let low = ends_below g edges more after four walks is_graph track e e_in in
          each_past web.ends (crossed e) Fine d ds
          (λ j j_in passes.
          let j_low : j < length (spots e) = omega (arith, j_in, long, size) in
          let there : tail_of web.ends (at ds j) ≡ at (inner e) j = ap (λ l. tail_of web.ends (at l (suc j))) (sym is) ∙ sym (inner_at e j e_in j_low) in
          let parts : (four (tail_of web.ends (at ds j)) ≡ true) × (is_met edges web.ends walks e (tail_of web.ends (at ds j)) ≡ true) = and_parts _ _ passes in
          both_fine e j e_in j_low d ds is (tail_of web.ends (at ds j)) parts.0 refl there)
          (let at_it = walk_last more.ends _ _ (walks e) (track.lead e e_in) (length ds) (sym long) in
          let last_in : length ds < length (walks e) = omega (arith, long) in
          let back : reverse_of (at (walks e) (length ds)) < 2 * length web.ends = reverse_below (length web.ends) (at (walks e) (length ds)) (dart_in e (length ds) e_in last_in) in
          subst Fine (ap (λ l. reverse_of (at l (length ds))) is) (at_end (reverse_of (at (walks e) (length ds))) back (omega (arith, at_it, low.1))))
          x (omega (arith, x_in))
        where
          both_fine : (e j : ℕ) (e_in : has edges e ≡ true) → j < length (spots e) → (d : ℕ) (ds : List ℕ) → walks e ≡ d ∷ ds → (v : ℕ) → four v ≡ true → tail_of web.ends (at ds j) ≡ v → tail_of web.ends (at ds j) ≡ at (inner e) j →
              Fine (reverse_of (at (d ∷ ds) j)) × Fine (at ds j)
          both_fine e j e_in j_low d ds is v holds at_v there =
              let size = walk_size e e_in in
              let j_in : suc j < length (walks e) = omega (arith, j_low, size) in
              let second_is : at ds j ≡ at (walks e) (suc j) = ap (λ l. at l (suc j)) (sym is) in
              let first_is : reverse_of (at (d ∷ ds) j) ≡ reverse_of (at (walks e) j) = ap (λ l. reverse_of (at l j)) (sym is) in
              let spot_v = to_spot e j v e_in j_low holds (sym there ∙ at_v) in
              let back : reverse_of (at (walks e) j) < 2 * length web.ends = reverse_below (length web.ends) (at (walks e) j) (dart_in e j e_in (omega (arith, j_in))) in
              let at_back : tail_of more.ends (reverse_of (at (walks e) j)) ≡ v = walk_seam more.ends _ _ (walks e) (track.lead e e_in) j j_in ∙ sym (spot_at e j e_in j_low) ∙ spot_v in
              let old_back = named g.nodes web next more after four kept (reverse_of (at (walks e) j)) v back holds at_back in (
                subst Fine (sym first_is) (back, inr (ap four old_back ∙ holds)),
                subst Fine (sym second_is) (dart_in e (suc j) e_in j_in, inr (ap (λ z. four (tail_of web.ends z)) (sym second_is) ∙ ap four at_v ∙ holds)),
              )

  -- round such a node the two turn alike
  round_is : (d k : ℕ) → Fine d → (iterate after k d ≡ iterate next k d) × Fine (iterate next k d)
  round_is d zero fine = (refl, fine)
  round_is d (suc k) fine =
      let r = round_is d k fine in
      let z = iterate next k d in
      let z_fine = r.1 in
      let on : after z ≡ next z = kept.turns z z_fine.0 z_fine.1 in
      let tail : tail_of web.ends (next z) ≡ tail_of web.ends z = old_map.same_node z z_fine.0 in
      (ap after r.0 ∙ on, (old_map.permutes.below z z_fine.0, elim z_fine.1 [ inl low ↦ inl (omega (arith, tail, low)) | inr holds ↦ inr (ap four tail ∙ holds) ]))

  -- ---- so they turn as in the drawing

  abbrev now : ℕ → ℕ
  now = (cut g edges more after four walks is_graph track simply).0

  abbrev drawn : Graph
  drawn = web_of g edges (order_along edges more.ends walks)

  abbrev now_turns : TurnsAsRuns (turn g edges more after four walks is_graph track) (length drawn.ends) first last now
  now_turns = (cut g edges more after four walks is_graph track simply).3

  abbrev part : List (ℕ × ℕ)
  part = ends_along more.ends all

  over : PassesOver (2 * length part) spot after (turn g edges more after four walks is_graph track)
  over = (passes_over more.nodes more.ends part spot after track.ground.is_flat_map.is_map (is_part g edges more after four walks is_graph track)).1

  starts_long : length starts ≡ 2 * length drawn.ends
  starts_long = go edges (λ e e_in. e_in)
    where
      go : (es : List ℕ) → ((e : ℕ) → has es e ≡ true → has edges e ≡ true) →
          length (flat_map (λ e. walk_starts web.ends (crossed e) (walks e)) es) ≡ 2 * length (flat_map (segments_of g (crossings_of edges (order_along edges more.ends walks)) (order_along edges more.ends walks)) es)
      go [] within = omega arith
      go (e ∷ es) within =
          let rest = go es (λ x x_in. within x (has-later e es x x_in)) in
          let one = length-append (walk_starts web.ends (crossed e) (walks e)) (flat_map (λ e. walk_starts web.ends (crossed e) (walks e)) es) in
          let two = length-append (segments_of g (crossings_of edges (order_along edges more.ends walks)) (order_along edges more.ends walks) e) (flat_map (segments_of g (crossings_of edges (order_along edges more.ends walks)) (order_along edges more.ends walks)) es) in
          let three = length-segments_of g (crossings_of edges (order_along edges more.ends walks)) (order_along edges more.ends walks) e in
          let four_is = own e (within e (has-first e es)) in
          omega (arith, rest, one, two, three, four_is)
        where
          own : (e : ℕ) → has edges e ≡ true → length (walk_starts web.ends (crossed e) (walks e)) ≡ 2 * suc (length (order_along edges more.ends walks e))
          own e e_in =
              let order : order_along edges more.ends walks e ≡ map (other_at edges web.ends walks e) (filter (crossed e) (inner e)) = ap (λ o. o e) order_same ∙ cond-true _ _ _ e_in in
              let size = ap length order ∙ length-map (filter (crossed e) (inner e)) (other_at edges web.ends walks e) in
              let some = some_darts g edges more after four walks is_graph track e e_in in
              let long = by_walk (walks e) some (crossed e) in
              omega (arith, size, long)
            where
              by_walk : (ds : List ℕ) → 0 < length ds → (test : ℕ → Bool) → length (walk_starts web.ends test ds) ≡ 2 * suc (length (filter test (passed web.ends ds)))
              by_walk [] some test = absurd (omega (arith, some))
              by_walk (d ∷ ds) some test = let size = starts_past-length web.ends test d ds in omega (arith, size)

  there : (x : ℕ) → x < length starts → x < 2 * length drawn.ends
  there x x_in = omega (arith, x_in, starts_long)

  here_is : (x : ℕ) → x < 2 * length drawn.ends → x < length starts
  here_is x x_in = omega (arith, x_in, starts_long)

  now_in : (x : ℕ) → x < length starts → now x < length starts
  now_in x x_in = here_is (now x) (now_turns.below x (there x x_in))

  -- a dart at which a run starts is one of the part
  run_in : (x : ℕ) → x < length starts → run_dart first last x < 2 * length part
  run_in x x_in =
      let long : x < length (darts_of_runs runs) = let same = ap length starts_are in let size = length-map (darts_of_runs runs) spot in omega (arith, x_in, same, size) in
      let size = part_size g edges more after four walks is_graph track in
      let low = all_runs_below (2 * length all) runs_of edges (λ e e_in.
      let walk = walk_size e e_in in
      let end = place_in walks edges e (length (spots e)) e_in (omega (arith, walk)) in
      runs_below (2 * length all) (met_spot e) (spots e) (start e) (start e) (omega arith) (omega (arith, end))) x long in
      let here = run_at runs x long in
      omega (arith, low, here, size)

  comes_first : (x : ℕ) → x < length starts → ComesFirst (2 * length part) spot after (at starts x) (at starts (now x))
  comes_first x x_in =
      let c = over.first (run_dart first last x) (run_in x x_in) in
      let C : ℕ → ℕ → Type 0 = λ a b. ComesFirst (2 * length part) spot after a b in
      let to : at starts (now x) ≡ spot (turn g edges more after four walks is_graph track (run_dart first last x)) = start_is (now x) (now_in x x_in) ∙ ap spot (now_turns.turns x (there x x_in)) in
      subst (C (at starts x)) (sym to) (subst (λ a. C a (spot (turn g edges more after four walks is_graph track (run_dart first last x)))) (sym (start_is x x_in)) c)

  apart : (x y : ℕ) → x < length starts → y < length starts → at starts x ≡ at starts y → x ≡ y
  apart x y x_in y_in same =
      let z = source_of (2 * length drawn.ends) now (drawing g edges more after four walks is_graph track simply).is_flat_map.is_map.permutes x (there x x_in) in
      let runs_same : run_dart first last x ≡ run_dart first last y =
      (is_part g edges more after four walks is_graph track).apart _ _ (run_in x x_in) (run_in y y_in) (sym (start_is x x_in) ∙ same ∙ start_is y y_in) in
      let on : turn g edges more after four walks is_graph track (run_dart first last z.0) ≡ run_dart first last y =
      sym (now_turns.turns z.0 z.1) ∙ ap (run_dart first last) z.2 ∙ runs_same in
      sym z.2 ∙ now_turns.from z.0 y z.1 (there y y_in) on

  same_first : (turns : ℕ → ℕ) → PassesOver (length starts) (at starts) next turns → (x : ℕ) → x < length starts → turns x ≡ now x
  same_first turns over_starts x x_in =
      let d = at starts x in
      let fine = start_fine x x_in in
      let one = comes_first x x_in in
      let two = over_starts.first x x_in in
      let alike : (k : ℕ) → iterate after k d ≡ iterate next k d = λ k. (round_is d k fine).0 in
      let turn_in = over_starts.below x x_in in
      apart (turns x) (now x) turn_in (now_in x x_in) (elim (cases_order one.steps two.steps) [
        | inl same ↦ sym two.there ∙ ap (λ k. iterate next (suc k) d) (sym same) ∙ sym (alike (suc one.steps)) ∙ one.there
        | inr (inl low) ↦ absurd (two.between one.steps (now x) low (now_in x x_in) (sym (alike (suc one.steps)) ∙ one.there))
        | inr (inr high) ↦
            let z_in = run_in (turns x) turn_in in
            absurd (one.between two.steps (run_dart first last (turns x)) high z_in (alike (suc two.steps) ∙ two.there ∙ start_is (turns x) turn_in))
      ])

  drawn_along : (turns : ℕ → ℕ) → PassesOver (length starts) (at starts) next turns → IsDrawingOfEdges g edges (order_along edges more.ends walks) turns
  drawn_along turns over_starts =
      drawing-agrees g edges (order_along edges more.ends walks) now turns is_graph (drawing g edges more after four walks is_graph track simply)
      (λ x x_in. same_first turns over_starts x (here_is x x_in))

  few : length (crossings_of edges (order_along edges more.ends walks)) ≤ count_below web.nodes four
  few =
      let one = (tidied g edges more after four walks is_graph track simply).2 in
      let two : count_below more.nodes four ≤ count_below web.nodes four = count_old in
      omega (arith, one, two)
    where
      count_old : count_below more.nodes four ≤ count_below web.nodes four
      count_old = count_injects more.nodes web.nodes four four (λ i v. i ≡ v) (λ i i_in h. (i, kept.old i h, h, refl)) (λ i j v i_in j_in one two. one ∙ sym two)

  pub tidy : IsTidied g edges web next four walks
  tidy =
      let P : (ℕ → List ℕ) → Type 0 = λ o. (length starts ≡ 2 * length (web_of g edges o).ends)
      × ((turns : ℕ → ℕ) → PassesOver (length starts) (at starts) next turns → IsDrawingOfEdges g edges o turns)
      × (length (crossings_of edges o) ≤ count_below web.nodes four) in
      let all_of = subst P order_same (starts_long, drawn_along, few) in
      record { below = λ x x_in. (start_fine x x_in).0; apart = apart; size = all_of.0; drawing = all_of.1; few = all_of.2 }

pub loosened_walks_are_drawings : LoosenedWalksAreDrawings
loosened_walks_are_drawings g edges web next four walks is_graph nodes_in old_map state meet = tidy g edges web next four walks is_graph nodes_in old_map state meet
