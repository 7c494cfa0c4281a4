-- What is read off walks where no step is left is a loose drawing, and simple.
use Rattle.std.proofs.Common.{◌≡◌, ℕ, ◌+◌, ◌*◌, ◌<◌, ◌≤◌, inl, inr, true, false, eqb, List, [], ◌||◌, ◌∷◌, length, map, refl, sym, ◌∙◌, ap, ap₂, subst, arith}
use Rattle.std.specs.List.{range_with_len}
use Rattle.std.proofs.lemmas.Bool.{both_ways, cases_Bool, cond-false, cond-true, eqb-true}
use Rattle.std.proofs.lemmas.List.{length-map, map-id}
use Rattle.std.proofs.lemmas.List.FromFn.{get_or-range_with_len}
use Rattle.xn_model.specs.Graph.{Graph}
use Rattle.xn_model.specs.Lists.{at, has}
use Rattle.xn_model.specs.Map.{IsMap}
use Rattle.xn_model.specs.Orders.{IsOrders, crossings_of, order_at}
use Rattle.xn_model.specs.Web.{web_of}
use Rattle.xn_model.proofs.Has.{has-first, has-later}
use Rattle.xn_model.proofs.Ranges.{order_at_outside}
use Rattle.xn_kinds.specs.declared.drawings.Drawing.{Drawing}
use Rattle.xn_map.specs.Listed.{ListedMap, map_of}
use Rattle.xn_orders.proofs.Limits.{crossings_few}
use Rattle.xn_track.specs.Tidying.{IsDrawingOfEdges}
use Rattle.xn_insert.specs.Calls.{DrawsKept, IsStarted}
use Rattle.xn_insert.specs.ListedLoose.{ListedLoose, edges_in, loose_of}
use Rattle.xn_simple.specs.LaidAgain.{IsLaidAgain, IsLaidOf, all_but_edge, taken_out}
use Rattle.xn_simple.specs.Tangle.{IsTangleOf, ListedTangle, named, walk_in}
use Rattle.xn_simple.specs.Tidied.{IsTidied}
use Rattle.xn_simple.specs.Untangling.{IsReadBy, IsUntangled, KeepsMap, order_in}
use Rattle.xn_simple.proofs.Begun.{named_few}
use Rattle.xn_simple.proofs.DrawnBy.{tidy}
use Rattle.xn_simple.proofs.ReadOff.{each_below, edge_below, edges_apart, few_apart}

map-same : (f h : ℕ → ℕ) (xs : List ℕ) → ((x : ℕ) → has xs x ≡ true → f x ≡ h x) → map f xs ≡ map h xs
map-same f h [] same = refl
map-same f h (x ∷ xs) same = ap₂ (λ y ys. y ∷ ys) (same x (has-first x xs)) (map-same f h xs (λ y y_in. same y (has-later x xs y y_in)))

-- rows in the order of the edges, read back
row_of : (ord : ℕ → List ℕ) (edges : List ℕ) (e : ℕ) → has edges e ≡ true → order_at edges (map ord edges) e ≡ ord e
row_of ord [] e there = absurd (both_ways false refl there)
row_of ord (x ∷ xs) e there = elim (cases_Bool (eqb x e)) [
  | inl here ↦ cond-true _ _ _ here ∙ ap ord (eqb-true x e here)
  | inr later ↦ cond-false _ _ _ later ∙ row_of ord xs e (sym (ap (λ b. b || has xs e) later) ∙ there)
]

module _ (g : Graph) (t : ListedTangle) (done : IsUntangled g t) where
  abbrev edges : List ℕ
  edges = t.edges

  abbrev ord : ℕ → List ℕ
  ord = order_in t

  tidied : IsTidied g edges t.map.web (at t.map.next) (named t) (walk_in t)
  tidied = tidy g t done

  -- each edge has its own number
  own_numbers : (numbers : List ℕ) → numbers ≡ range_with_len 0 (length g.ends) → IsOrders g.ends edges ord → map (λ e. map (at numbers) (ord e)) edges ≡ map ord edges
  own_numbers numbers are orders =
      ap (λ (row : ℕ → List ℕ). map row edges) (λ i e. same e i)
    where
      own : (f : ℕ) → f < length g.ends → at numbers f ≡ f
      own f low = let z : 0 + f ≡ f = omega arith in ap (λ l. at l f) are ∙ get_or-range_with_len 0 (length g.ends) f 0 low ∙ z

      same : (e : ℕ) → map (at numbers) (ord e) ≡ ord e
      same e = map-same (at numbers) (λ x. x) (ord e) (λ f f_in. own f (edge_below g t done f (orders.within f e (orders.both_ways e f f_in)))) ∙ map-id (ord e)

  module _ (numbers : List ℕ) (are : numbers ≡ range_with_len 0 (length g.ends)) (d : Drawing) (read : IsReadBy t numbers d) where
    draws : IsDrawingOfEdges g edges ord (at d.next)
    draws = tidied.drawing (at d.next) read.over

    rows : d.orders ≡ map ord edges
    rows = read.rows ∙ own_numbers numbers are draws.orders

    -- the rows are the orders
    outside : (e : ℕ) → has edges e ≡ false → ord e ≡ []
    outside e out = cond-false _ _ _ out

    row_is : (e : ℕ) → order_at edges d.orders e ≡ ord e
    row_is e = ap (λ ls. order_at edges ls e) rows ∙ elim (cases_Bool (has edges e)) [
      | inl there ↦ row_of ord edges e there
      | inr out ↦ order_at_outside edges (map ord edges) e out ∙ sym (outside e out)
    ]

    rows_are : order_at edges d.orders ≡ ord
    rows_are = λ i e. row_is e i

    pub rows_fit : length d.orders ≡ length edges
    rows_fit = ap length rows ∙ length-map edges ord

    pub own_orders : IsOrders g.ends edges (order_at edges d.orders)
    own_orders = subst (IsOrders g.ends edges) (sym rows_are) draws.orders

    pub same_web : web_of g edges (order_at edges d.orders) ≡ web_of g edges ord
    same_web = ap (web_of g edges) rows_are

    pub next_fits : (web : Graph) → web ≡ web_of g edges (order_at edges d.orders) → length d.next ≡ 2 * length web.ends
    next_fits web is = read.size ∙ tidied.size ∙ ap (λ w. 2 * length w.ends) (sym (is ∙ same_web))

    pub next_turns : (web : Graph) → web ≡ web_of g edges (order_at edges d.orders) → IsMap web.nodes web.ends (at d.next)
    next_turns web is = subst (λ w. IsMap w.nodes w.ends (at d.next)) (sym (is ∙ same_web)) draws.is_flat_map.is_map

    pub draws_kept : (web : Graph) (turned : ListedMap) → web ≡ web_of g edges (order_at edges d.orders) → turned ≡ map_of web d.next → DrawsKept g edges d.orders turned
    draws_kept web turned is map_is = record {
      fits = rows_fit;
      web = ap (λ m. m.web) map_is ∙ is;
      drawing = subst (λ o. IsDrawingOfEdges g edges o (at turned.next)) (sym rows_are) (subst (λ ns. IsDrawingOfEdges g edges ord (at ns)) (sym (ap (λ m. m.next) map_is)) draws);
    }

    pub laid_out : (web : Graph) (turned : ListedMap) (l : ListedLoose) → length g.ends ≤ 1000 → web ≡ web_of g edges (order_at edges d.orders) → turned ≡ map_of web d.next →
        IsStarted g edges turned l → IsLaidOf g t l
    laid_out web turned l limit is map_is started =
        let nodes : l.map.web.nodes ≡ g.nodes + length (crossings_of edges ord) = ap (λ m. m.web.nodes) (started.same_map ∙ map_is) ∙ ap (λ w. w.nodes) (is ∙ same_web) in
        let few = tidied.few in
        let most = named_few g t done.tangle in
        let long = few_apart (length g.ends) edges (each_below g t done) (edges_apart g t done) in
        let pairs = crossings_few edges ord (omega (arith, long, limit)) in
        record {
          loose = started.loose;
          once = started.once;
          same_edges = started.kept_are_in;
          no_more = omega (arith, nodes, few, most);
          few = omega (arith, nodes, pairs);
        }

-- ---- of a loose drawing

pub laid_kept : (g : Graph) (old new : ListedTangle) (l : ListedLoose) → KeepsMap old new → IsLaidOf g new l → IsLaidOf g old l
laid_kept g old new l keeps laid =
    let nodes = ap (λ m. m.web.nodes) keeps.same_map in
    let most = laid.no_more in
    record { loose = laid.loose; once = laid.once; same_edges = laid.same_edges ∙ keeps.same_edges; no_more = omega (arith, most, nodes); few = laid.few }

module _ (g : Graph) (l : ListedLoose) (turned : ListedMap) (walks : List (List ℕ)) (map_is : turned ≡ l.map) (walks_is : walks ≡ l.walks)
    (start : ListedTangle) (begins : IsTangleOf g turned (edges_in (loose_of g.nodes turned walks)) start) (new : ListedLoose) where
  begun : start.edges ≡ edges_in l
  begun = begins.same_edges ∙ ap (λ w. edges_in (loose_of g.nodes turned w)) walks_is

  nodes_are : start.map.web.nodes ≡ l.map.web.nodes
  nodes_are = ap (λ m. m.web.nodes) (begins.same_map ∙ map_is)

  pub again_as : IsLaidOf g start new → IsLaidAgain g (edges_in l) l new
  again_as laid =
      let most = laid.no_more in
      let nodes = nodes_are in
      record { loose = laid.loose; once = laid.once; same_edges = laid.same_edges ∙ begun; no_more = omega (arith, most, nodes); few = laid.few }

  pub without_as : (e : ℕ) (fewer : ListedTangle) → fewer ≡ taken_out start e → IsLaidOf g fewer new → IsLaidAgain g (all_but_edge e (edges_in l)) l new
  without_as e fewer is laid =
      let most = laid.no_more in
      let nodes = ap (λ t. t.map.web.nodes) is ∙ nodes_are in
      record { loose = laid.loose; once = laid.once; same_edges = laid.same_edges ∙ ap (λ t. t.edges) is ∙ ap (all_but_edge e) begun; no_more = omega (arith, most, nodes); few = laid.few }
