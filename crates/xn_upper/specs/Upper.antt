-- Loose drawings of all edges, orders in which edges come in, and edges that lie flat.
use Rattle.std.specs.Prelude.{◌≡◌, ℕ, ◌+◌, ◌^◌, ◌≤◌, true, Bool, List, [], IsPermutation, length, replicate}
use Rattle.xn_model.specs.Graph.{Graph, edges_of}
use Rattle.xn_model.specs.Lists.{has}
use Rattle.xn_model.specs.Orders.{IsEdgeList, order_at}
use Rattle.xn_model.specs.Web.{web_of}
use Rattle.xn_components.specs.Listing.{IsFlatMapOf}
use Rattle.xn_map.specs.Listed.{ListedMap}
use Rattle.xn_insert.specs.ListedLoose.{IsLooseOf, ListedLoose, edges_in}

-- a loose drawing of all edges
pub record IsWholeOf (g : Graph) (l : ListedLoose) : Type 0 where
  pub loose : IsLooseOf g l
  pub all : edges_in l ≡ edges_of g

-- each edge once
abbrev pub IsOrderOfAll : Graph → List ℕ → Type 0
IsOrderOfAll g order = IsPermutation (edges_of g) order

-- a loose drawing in which e is in, beside these edges
pub record HasBeside (g : Graph) (edges : List ℕ) (e : ℕ) (l : ListedLoose) : Type 0 where
  pub loose : IsLooseOf g l
  pub there : has (edges_in l) e ≡ true
  pub kept : (x : ℕ) → has edges x ≡ true → has (edges_in l) x ≡ true

-- a loose drawing of these edges, with so few crossings that one more may come in
pub record HasFew (g : Graph) (edges : List ℕ) (l : ListedLoose) : Type 0 where
  pub loose : IsLooseOf g l
  pub same_edges : edges_in l ≡ edges
  pub few : l.map.web.nodes ≤ l.nodes + 2 ^ 24

-- ---- edges that lie flat

-- an empty list for each edge of a list
abbrev pub empty_lists : List ℕ → List (List ℕ)
empty_lists edges = replicate (length edges) []

-- the web of these edges without crossings
abbrev pub bare_web : Graph → List ℕ → Graph
bare_web g edges = web_of g edges (order_at edges (empty_lists edges))

-- there is a mark for each edge, the kept ones rise, and the map is a flat one of them
pub record AreKept (g : Graph) (marks : List Bool) (edges : List ℕ) (map : ListedMap) : Type 0 where
  pub fits : length marks ≡ length g.ends
  pub edge_list : IsEdgeList (length g.ends) edges
  pub flat : IsFlatMapOf (bare_web g edges) map
