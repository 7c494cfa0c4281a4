-- Some edges of a graph, and what orders of all edges are on them.
use Rattle.std.specs.Prelude.{◌≡◌, ℕ, Bool, true, false, List, [], length, filter, map, slice_index_or}
use Rattle.xn_model.specs.Graph.{Graph, edges_of}
use Rattle.xn_model.specs.Lists.{has}
use Rattle.xn_model.specs.Orders.{IsOrders, order_at}
use Rattle.xn_cut.specs.Cuts.{crosses_in}

-- the edge is marked
abbrev pub is_kept : List Bool → ℕ → Bool
is_kept kept e = slice_index_or kept e false

-- the marked edges
abbrev pub edges_kept : Graph → List Bool → List ℕ
edges_kept g kept = filter (is_kept kept) (edges_of g)

-- what is marked of the list of an edge
abbrev pub list_kept : List (List ℕ) → List Bool → ℕ → List ℕ
list_kept orders kept e = filter (is_kept kept) (slice_index_or orders e [])

abbrev pub lists_kept : List (List ℕ) → List Bool → List ℕ → List (List ℕ)
lists_kept orders kept edges = map (list_kept orders kept) edges

-- orders over some edges, in which just those of them cross that do in the orders of all
pub record IsPart (g : Graph) (orders : List (List ℕ)) (edges : List ℕ) (lists : List (List ℕ)) : Type 0 where
  pub lists_fit : length lists ≡ length edges
  pub are_orders : IsOrders g.ends edges (order_at edges lists)
  pub crosses : (e f : ℕ) → has edges e ≡ true → has edges f ≡ true → has (order_at edges lists e) f ≡ crosses_in g orders e f
