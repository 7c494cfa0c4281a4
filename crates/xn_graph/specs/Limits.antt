-- Graphs and webs within the limits.
use Rattle.std.specs.Prelude.{◌≢◌, ℕ, ◌^◌, ◌<◌, ◌≤◌, List, length}
use Rattle.xn_model.specs.Graph.{Graph, IsGraph, EndsIn}

-- the graph or web of these nodes and ends
abbrev pub graph_of : ℕ → List (ℕ × ℕ) → Graph
graph_of nodes ends = record { nodes = nodes; ends = ends }

-- both ends are nodes
abbrev pub HasNodes : ℕ → ℕ × ℕ → Type 0
HasNodes nodes p = (p.0 < nodes) × (p.1 < nodes)

-- the ends are two different nodes
abbrev pub IsEdge : ℕ → ℕ × ℕ → Type 0
IsEdge nodes p = (p.0 < nodes) × (p.1 < nodes) × (p.0 ≢ p.1)

-- a graph of at most 1,000 nodes and 1,000 edges
pub record IsLimitedGraph (g : Graph) : Type 0 where
  pub is_graph : IsGraph g
  pub few_nodes : g.nodes ≤ 1000
  pub few_edges : length g.ends ≤ 1000

-- a web of at most 2^30 nodes and 2^30 segments
pub record IsLimitedWeb (web : Graph) : Type 0 where
  pub ends_in : EndsIn web.nodes web.ends
  pub few_nodes : web.nodes ≤ 2 ^ 30
  pub few_segments : length web.ends ≤ 2 ^ 30
