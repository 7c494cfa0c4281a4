-- Some edges of a graph as a graph of their own.
use Rattle.std.specs.Prelude.{◌≡◌, ℕ, List, [], length, map, if◌then◌else◌, nat_lt}
use Rattle.xn_model.specs.Drawing.{IsSimpleDrawing}
use Rattle.xn_model.specs.Graph.{Graph, ends_at}
use Rattle.xn_model.specs.Lists.{at, position_in}
use Rattle.xn_model.specs.Orders.{crossing_count, crossings_of}
use Rattle.xn_track.specs.Tidying.{IsDrawingOfEdges}

-- the graph of the listed edges, numbered as they are listed
abbrev pub subgraph_of : Graph → List ℕ → Graph
subgraph_of g edges = record { nodes = g.nodes; ends = map (ends_at g.ends) edges }

-- the orders under these numbers
abbrev pub renumbered : List ℕ → (ℕ → List ℕ) → ℕ → List ℕ
renumbered edges ord i = if nat_lt i (length edges) then map (position_in edges) (ord (at edges i)) else []

-- a drawing of some edges is a drawing of their graph, with the same turns
abbrev pub DrawingsOfEdgesAreDrawings : Type 0
DrawingsOfEdgesAreDrawings =
    (g : Graph) (edges : List ℕ) (ord : ℕ → List ℕ) (next : ℕ → ℕ) → IsDrawingOfEdges g edges ord next →
    IsSimpleDrawing (subgraph_of g edges) (renumbered edges ord) next
    × (crossing_count (subgraph_of g edges) (renumbered edges ord) ≡ length (crossings_of edges ord))
