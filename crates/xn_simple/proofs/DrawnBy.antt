-- The lists and the turns that are read off walks are a drawing of the edges that are in.
use Rattle.std.proofs.Common.{◌≡◌, ℕ, zero, suc, ◌+◌, ◌*◌, ◌<◌, ◌≤◌, inl, inr, true, List, [], ◌∷◌, length, get_or, map, refl, sym, ◌∙◌, ap, ap₂, subst, arith, length-append}
use Rattle.std.specs.List.{flat_map}
use Rattle.std.proofs.lemmas.Bool.{cases_lt, cond-true, cond-false, le-ltb, lt-ltb}
use Rattle.std.proofs.lemmas.List.{length-map}
use Rattle.std.proofs.lemmas.List.FromFn.{get_or-range_with_len, length-range_with_len}
use Rattle.xn_model.specs.Drawing.{IsSimpleDrawing, IsListedDrawing, drawn_web, order_of}
use Rattle.xn_model.specs.Graph.{Graph, edges_of, ends_at}
use Rattle.xn_model.specs.Lists.{at, has, position_in, total}
use Rattle.xn_model.specs.Orders.{IsOrders, crossing_count, crossings_of}
use Rattle.xn_model.specs.Web.{segments_of, web_of}
use Rattle.xn_model.proofs.Has.{has-first, has-later}
use Rattle.xn_model.proofs.Ranges.{edge_list, has-range_past, order_at_outside}
use Rattle.xn_kinds.specs.declared.drawings.Drawing.{Drawing}
use Rattle.xn_genus.specs.Part.{PassesOver}
use Rattle.xn_orders.proofs.Limits.{length-segments_of}
use Rattle.xn_orders.proofs.Listed.{order_at-place}
use Rattle.xn_draw.proofs.Totals.{segment_count}
use Rattle.xn_track.specs.Tidying.{IsDrawingOfEdges}
use Rattle.xn_loose.specs.Renaming.{renumbered, subgraph_of}
use Rattle.xn_loose.proofs.Renamed.{drawings_of_edges_are_drawings}
use Rattle.xn_simple.specs.Tangle.{ListedTangle, named, walk_in}
use Rattle.xn_simple.specs.Tidied.{IsTidied, starts_by_walks}
use Rattle.xn_simple.specs.Untangling.{AreNumbers, IsDrawnBy, IsUntangled, named_count, order_in}
use Rattle.xn_simple.proofs.Read.{meet_simply}
use Rattle.xn_simple.proofs.Tidied.{loosened_walks_are_drawings}

map-same : (f h : ℕ → ℕ) (xs : List ℕ) → ((x : ℕ) → has xs x ≡ true → f x ≡ h x) → map f xs ≡ map h xs
map-same f h [] same = refl
map-same f h (x ∷ xs) same = ap₂ (λ y ys. y ∷ ys) (same x (has-first x xs)) (map-same f h xs (λ y y_in. same y (has-later x xs y y_in)))

-- where a list is read at a place
row-at : (row : ℕ → List ℕ) (xs : List ℕ) (i : ℕ) → i < length xs → get_or (map row xs) i [] ≡ row (at xs i)
row-at row [] i low = absurd (omega (arith, low))
row-at row (x ∷ xs) zero low = refl
row-at row (x ∷ xs) (suc i) low = row-at row xs i (omega (arith, low))

module _ (g : Graph) (t : ListedTangle) (done : IsUntangled g t) where
  abbrev edges : List ℕ
  edges = t.edges

  abbrev ord : ℕ → List ℕ
  ord = order_in t

  abbrev sub : Graph
  sub = subgraph_of g edges

  pub tidy : IsTidied g edges t.map.web (at t.map.next) (named t) (walk_in t)
  tidy = loosened_walks_are_drawings g edges t.map.web (at t.map.next) (named t) (walk_in t) done.tangle.is_graph done.tangle.nodes_in done.tangle.is_map.is_map
      done.tangle.loosened (meet_simply g t done)

  module _ (numbers : List ℕ) (are : AreNumbers (length g.ends) edges numbers) (turns : List ℕ)
      (size : length turns ≡ length (starts_by_walks edges t.map.web.ends (named t) (walk_in t)))
      (over : PassesOver (length (starts_by_walks edges t.map.web.ends (named t) (walk_in t))) (at (starts_by_walks edges t.map.web.ends (named t) (walk_in t))) (at t.map.next) (at turns)) where
    of_edges : IsDrawingOfEdges g edges ord (at turns)
    of_edges = tidy.drawing (at turns) over

    orders : IsOrders g.ends edges ord
    orders = of_edges.orders

    abbrev rows : List (List ℕ)
    rows = map (λ e. map (at numbers) (ord e)) edges

    k_is : length sub.ends ≡ length edges
    k_is = length-map edges (ends_at g.ends)

    rows_fit : length rows ≡ length sub.ends
    rows_fit = length-map edges (λ e. map (at numbers) (ord e)) ∙ sym k_is

    row_is : (i : ℕ) → order_of sub rows i ≡ renumbered edges ord i
    row_is i = elim (cases_lt i (length edges)) [
      | inl low ↦
          let long = length-range_with_len 0 (length sub.ends) in
          let in_range : i < length (edges_of sub) = omega (arith, low, long, k_is) in
          let here : get_or (edges_of sub) i 0 ≡ i = let zero_i : 0 + i ≡ i = omega arith in get_or-range_with_len 0 (length sub.ends) i 0 (omega (arith, low, k_is)) ∙ zero_i in
          ap (order_of sub rows) (sym here)
          ∙ order_at-place (edges_of sub) rows i 0 (edge_list (length sub.ends)).rise (rows_fit ∙ sym long) in_range
          ∙ row-at (λ e. map (at numbers) (ord e)) edges i low
          ∙ map-same (at numbers) (position_in edges) (ord (at edges i)) (λ f f_in. are.held f (orders.within f (at edges i) (orders.both_ways (at edges i) f f_in)))
          ∙ sym (cond-true _ _ _ (lt-ltb _ _ low))
      | inr past ↦
          order_at_outside (edges_of sub) rows i (has-range_past 0 (length sub.ends) i (omega (arith, past, k_is))) ∙ sym (cond-false _ _ _ (le-ltb _ _ past))
    ]

    order_is : order_of sub rows ≡ renumbered edges ord
    order_is = λ j i. row_is i j

    -- as many segments
    row_segments : (es : List ℕ) → length (flat_map (segments_of g (crossings_of edges ord) ord) es) ≡ length (map (λ e. map (at numbers) (ord e)) es) + total length (map (λ e. map (at numbers) (ord e)) es)
    row_segments [] = omega arith
    row_segments (e ∷ es) =
        let rest = row_segments es in
        let sum = length-append (segments_of g (crossings_of edges ord) ord e) (flat_map (segments_of g (crossings_of edges ord) ord) es) in
        let one = length-segments_of g (crossings_of edges ord) ord e in
        let size = length-map (ord e) (at numbers) in
        omega (arith, rest, sum, one, size)

    segments : length (web_of g edges ord).ends ≡ length (drawn_web sub rows).ends
    segments = row_segments edges ∙ ap (λ k. k + total length rows) rows_fit ∙ sym (segment_count sub rows rows_fit)

    pub drawn_by : (d : Drawing) → d.orders ≡ rows → d.next ≡ turns → IsDrawnBy g t d
    drawn_by d orders_are next_is =
        let renamed = drawings_of_edges_are_drawings g edges ord (at turns) of_edges in
        let D : List (List ℕ) → List ℕ → Type 0 = λ ls ns. IsListedDrawing sub ls ns × (crossing_count sub (order_of sub ls) ≤ named_count t) in
        let both : D rows turns = (
          record {
            lists_fit = rows_fit;
            next_fits = size ∙ tidy.size ∙ ap (λ k. 2 * k) segments;
            drawing = subst (λ o. IsSimpleDrawing sub o (at turns)) (sym order_is) renamed.0;
          },
          let few = tidy.few in
              let same = ap (crossing_count sub) order_is ∙ renamed.1 in
              omega (arith, few, same),
        ) in
        let there = subst (λ ls. D ls d.next) (sym orders_are) (subst (λ ns. D rows ns) (sym next_is) both) in
        record { drawing = there.0; few = there.1 }
