-- The planarised graph of a graph within the limits is a web within the limits.
use Rattle.std.proofs.Common.{◌≡◌, ℕ, suc, ◌+◌, ◌*◌, ◌<◌, ◌≤◌, inl, inr, Bool, true, false, ◌&&◌, eqb, ltb, List, [], ◌∷◌, length, map, refl, sym, ◌∙◌, ap, arith, length-append}
use Rattle.std.specs.List.{AllByRecursion, flat_map, list_any}
use Rattle.std.proofs.Math.Nat.{mul-le-mul_left}
use Rattle.std.proofs.lemmas.Bool.{both_ways, cases_Bool, cond-true, cond-false, eq-eqb, eqb-true, or_cases, or_left, or_right}
use Rattle.std.proofs.lemmas.List.{length-map}
use Rattle.std.proofs.lemmas.List.Elements.{recursion_from_All}
use Rattle.std.proofs.lemmas.List.Sums.{length-filter, count_by-le-length}
use Rattle.std.proofs.lemmas.Map.Keys.{sorted_from_strictly_increasing}
use Rattle.std.proofs.lemmas.Map.Steps.{length-le_from_distinct_below}
use Rattle.std.proofs.lemmas.Map.Views.{length-le_from_below}
use Rattle.xn_model.specs.Graph.{Graph, EndsIn, IsGraph, each_two, ends_at}
use Rattle.xn_model.specs.Lists.{has}
use Rattle.xn_model.specs.Orders.{IsEdgeList, IsOrders, crossings_of}
use Rattle.xn_model.specs.Web.{crossing_node, crossing_number_in, segments_of, segments_through, web_of}
use Rattle.xn_graph.specs.Limits.{IsLimitedGraph, IsLimitedWeb}
use Rattle.xn_graph.proofs.Ends.{EndsIn-at}
use Rattle.xn_model.proofs.Has.{all_of}
use Rattle.xn_model.proofs.Darts.{EndsIn-both}
use Rattle.xn_graph.proofs.Pairs.{length-each_two}
use Rattle.xn_orders.specs.Crossed.{crosses_in}
use Rattle.xn_orders.specs.Pairs.{has_pair}
use Rattle.xn_orders.proofs.Numbered.{crosses_in-entry}

-- ---- how many crossings and segments there are

pub edges_few : (count : ℕ) (edges : List ℕ) → IsEdgeList count edges → length edges ≤ count
edges_few count edges list = length-le_from_below count edges (sorted_from_strictly_increasing edges list.rise) list.below

pub crossings_few : (edges : List ℕ) (ord : ℕ → List ℕ) → length edges ≤ 1000 → length (crossings_of edges ord) ≤ 499500
crossings_few edges ord few =
    let test : ℕ × ℕ → Bool = λ p. has (ord p.0) p.1 in
    omega (arith, length-filter test (each_two edges), count_by-le-length test (each_two edges), length-each_two edges, mul-le-mul_left (length edges) few)

length-segments_through : (u : ℕ) (ws : List ℕ) (v : ℕ) → length (segments_through u ws v) ≡ suc (length ws)
length-segments_through u [] v = refl
length-segments_through u (w ∷ ws) v = ap suc (length-segments_through w ws v)

pub length-segments_of : (g : Graph) (pairs : List (ℕ × ℕ)) (ord : ℕ → List ℕ) (e : ℕ) → length (segments_of g pairs ord e) ≡ suc (length (ord e))
length-segments_of g pairs ord e =
    length-segments_through (ends_at g.ends e).0 (map (crossing_node g.nodes pairs e) (ord e)) (ends_at g.ends e).1
    ∙ ap suc (length-map (ord e) (crossing_node g.nodes pairs e))

length-flat_map-le : {X : Type 0} (f : ℕ → List X) (n : ℕ) → ((e : ℕ) → length (f e) ≤ n) → (es : List ℕ) → length (flat_map f es) ≤ length es * n
length-flat_map-le f n each [] = omega arith
length-flat_map-le f n each (e ∷ es) = omega (arith, length-append (f e) (flat_map f es), each e, length-flat_map-le f n each es)

flipped_has : (xs : List ℕ) (x : ℕ) → list_any (eqb x) xs ≡ true → has xs x ≡ true
flipped_has [] x h = absurd (both_ways false refl h)
flipped_has (y ∷ ys) x h = elim (or_cases (eqb x y) (list_any (eqb x) ys) h) [
  | inl here ↦ or_left (eqb y x) (has ys x) (eq-eqb y x (sym (eqb-true x y here)))
  | inr later ↦ or_right (eqb y x) (has ys x) (flipped_has ys x later)
]

-- ---- ends are nodes

number_below : (pairs : List (ℕ × ℕ)) (e f : ℕ) → has_pair pairs e f ≡ true → crossing_number_in pairs e f < length pairs
number_below [] e f h = absurd (both_ways false refl h)
number_below (p ∷ ps) e f h = elim (cases_Bool (eqb p.0 e && eqb p.1 f)) [
  | inl here ↦ rw here (omega arith)
  | inr other ↦
      let rest : has_pair ps e f ≡ true = elim (or_cases (eqb p.0 e && eqb p.1 f) (has_pair ps e f) h) [ inl here ↦ absurd (both_ways _ other here) | inr later ↦ later ] in
      rw other (omega (arith, number_below ps e f rest))
]

node_below : (nodes : ℕ) (pairs : List (ℕ × ℕ)) (e f : ℕ) → crosses_in pairs e f ≡ true → crossing_node nodes pairs e f < nodes + length pairs
node_below nodes pairs e f crosses = elim (cases_Bool (ltb e f)) [
  | inl below ↦
      let number = number_below pairs e f (sym (cond-true _ _ _ below) ∙ crosses) in
      rw below (omega (arith, number))
  | inr above ↦
      let number = number_below pairs f e (sym (cond-false _ _ _ above) ∙ crosses) in
      rw above (omega (arith, number))
]

EndsIn-through : (n u : ℕ) (ws : List ℕ) (v : ℕ) → u < n → AllByRecursion (λ w. w < n) ws → v < n → EndsIn n (segments_through u ws v)
EndsIn-through n u [] v u_in ws_in v_in = (u_in, v_in, tt)
EndsIn-through n u (w ∷ ws) v u_in ws_in v_in = (u_in, ws_in.0, EndsIn-through n w ws v ws_in.0 ws_in.1 v_in)

nodes_below : (n nodes : ℕ) (pairs : List (ℕ × ℕ)) (e : ℕ) (fs : List ℕ) → nodes + length pairs ≤ n → ((f : ℕ) → has fs f ≡ true → crosses_in pairs e f ≡ true) → AllByRecursion (λ w. w < n) (map (crossing_node nodes pairs e) fs)
nodes_below n nodes pairs e [] room crosses = tt
nodes_below n nodes pairs e (f ∷ fs) room crosses = (
  let here = node_below nodes pairs e f (crosses f (or_left (eqb f f) (has fs f) (eq-eqb f f refl))) in omega (arith, here, room),
  nodes_below n nodes pairs e fs room (λ g h. crosses g (or_right (eqb f g) (has fs g) h)),
)

module _ (g : Graph) (edges : List ℕ) (ord : ℕ → List ℕ) (is_graph : IsGraph g) (orders : IsOrders g.ends edges ord) where
  ends_of : (es : List ℕ) → AllByRecursion (λ e. e < length g.ends) es → EndsIn (g.nodes + length (crossings_of edges ord)) (flat_map (segments_of g (crossings_of edges ord) ord) es)
  ends_of [] below = tt
  ends_of (e ∷ es) below =
      let pairs = crossings_of edges ord in
      let n = g.nodes + length pairs in
      let ends = EndsIn-at g.nodes g.ends is_graph.ends_in e below.0 in
      let first : (ends_at g.ends e).0 < n = omega (arith, ends.0) in
      let second : (ends_at g.ends e).1 < n = omega (arith, ends.1) in
      let between = nodes_below n g.nodes pairs e (ord e) (omega arith) (crosses_in-entry g.ends edges ord orders e) in
      let through = EndsIn-through n (ends_at g.ends e).0 (map (crossing_node g.nodes pairs e) (ord e)) (ends_at g.ends e).1 first between second in
      EndsIn-both n (segments_of g pairs ord e) (flat_map (segments_of g pairs ord) es) through (ends_of es below.1)

  -- the ends of the segments are nodes of the web
  pub web_ends : EndsIn (web_of g edges ord).nodes (web_of g edges ord).ends
  web_ends = ends_of edges (recursion_from_All (λ e. e < length g.ends) edges orders.edge_list.below)

module _ (g : Graph) (edges : List ℕ) (ord : ℕ → List ℕ) (limited : IsLimitedGraph g) (orders : IsOrders g.ends edges ord) where
  crosser_below : (e f : ℕ) → has (ord e) f ≡ true → f < length g.ends
  crosser_below e f crosses =
      all_of (λ x. x < length g.ends) edges (recursion_from_All (λ x. x < length g.ends) edges orders.edge_list.below) f (orders.within f e (orders.both_ways e f crosses))

  -- an edge has at most as many crossers as there are edges
  pub crossers_few : (e : ℕ) → length (ord e) ≤ length g.ends
  crossers_few e = length-le_from_distinct_below (ord e) (length g.ends) (orders.no_repeats e) (λ f h. crosser_below e f (flipped_has (ord e) f h))

  segments_few : length (flat_map (segments_of g (crossings_of edges ord) ord) edges) ≤ length edges * 1001
  segments_few =
      let f = segments_of g (crossings_of edges ord) ord in
      length-flat_map-le f 1001 (λ e. omega (arith, length-segments_of g (crossings_of edges ord) ord e, crossers_few e, limited.few_edges)) edges

  pub few_crossings : length (crossings_of edges ord) ≤ 499500
  few_crossings = crossings_few edges ord (omega (arith, edges_few (length g.ends) edges orders.edge_list, limited.few_edges))

  pub web_limited : IsLimitedWeb (web_of g edges ord)
  web_limited = record {
    ends_in = web_ends g edges ord limited.is_graph orders;
    few_nodes = omega (arith, few_crossings, limited.few_nodes);
    few_segments = omega (arith, segments_few, edges_few (length g.ends) edges orders.edge_list, limited.few_edges);
  }
