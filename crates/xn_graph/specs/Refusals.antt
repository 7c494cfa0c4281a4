-- Where a graph or a web is refused: the first cause in the order of the errors.
use Rattle.std.specs.Prelude.{◌≡◌, ℕ, ◌^◌, ◌<◌, ◌≤◌, ◌⊎◌, List, length}
use Rattle.xn_model.specs.Graph.{ends_at}
use Rattle.xn_graph.specs.Limits.{HasNodes, IsEdge}
use Rattle.xn_graph.specs.declared.graphs.GraphErr.{GraphErr}
use Rattle.xn_graph.specs.declared.graphs.GraphErr.TheVariants.{TooManyNodes, TooManyEdges, End, Loop}
use Rattle.xn_graph.specs.declared.webs.WebErr.{WebErr}
use Rattle.xn_graph.specs.declared.webs.WebErr.TheVariants as web_err

-- P fails at entry e, and holds at each entry before it
pub record FirstFails (P : ℕ × ℕ → Type 0) (ends : List (ℕ × ℕ)) (e : ℕ) : Type 0 where
  pub within : e < length ends
  pub before : (i : ℕ) → i < e → P (ends_at ends i)
  pub fails : ¬ (P (ends_at ends e))

-- the numbers of nodes and edges are within the limits, and e is the first edge that doesn't join two different nodes
pub record IsFirstEdgeFlaw (nodes : ℕ) (ends : List (ℕ × ℕ)) (e : ℕ) : Type 0 where
  pub few_nodes : nodes ≤ 1000
  pub few_edges : length ends ≤ 1000
  pub first : FirstFails (IsEdge nodes) ends e

-- a graph of these nodes and ends is refused for this cause
abbrev pub IsRefused : ℕ → List (ℕ × ℕ) → GraphErr → Type 0
IsRefused nodes ends TooManyNodes = 1000 < nodes
IsRefused nodes ends TooManyEdges = (nodes ≤ 1000) × (1000 < length ends)
IsRefused nodes ends (End e) = IsFirstEdgeFlaw nodes ends e × ¬ (HasNodes nodes (ends_at ends e))
IsRefused nodes ends (Loop e) = IsFirstEdgeFlaw nodes ends e × HasNodes nodes (ends_at ends e) × ((ends_at ends e).0 ≡ (ends_at ends e).1)

-- a web of these nodes and ends is refused for this cause
abbrev pub IsRefusedWeb : ℕ → List (ℕ × ℕ) → WebErr → Type 0
IsRefusedWeb nodes ends web_err.TooMany = (2 ^ 30 < nodes) ⊎ (2 ^ 30 < length ends)
IsRefusedWeb nodes ends (web_err.End s) = (nodes ≤ 2 ^ 30) × (length ends ≤ 2 ^ 30) × FirstFails (HasNodes nodes) ends s
