-- The walks of the edges in a planarised graph.
use Rattle.std.specs.Prelude.{ℕ, zero, suc, ◌*◌, List, [], ◌∷◌, length}
use Rattle.xn_model.specs.Drawing.{IsSimplyAtMost}
use Rattle.xn_model.specs.Graph.{Graph, IsGraph, edges_of}
use Rattle.xn_model.specs.Loose.{IsLoose}
use Rattle.xn_model.specs.Map.{IsFlat}
use Rattle.xn_model.specs.Orders.{IsOrders, crossing_count, crossings_of}
use Rattle.xn_model.specs.Web.{first_segment, web_of}
use Rattle.xn_track.specs.Tidying.{IsDrawingOfEdges}
use Rattle.xn_general.specs.Touching.{IsMesh}

-- the first darts of the segments s to s + more
abbrev pub darts_from : ℕ → ℕ → List ℕ
darts_from s zero = 2 * s ∷ []
darts_from s (suc more) = 2 * s ∷ darts_from (suc s) more

-- the walk of e in the planarised graph
abbrev pub walk_in_web : List ℕ → (ℕ → List ℕ) → ℕ → List ℕ
walk_in_web edges ord e = darts_from (first_segment edges ord e) (length (ord e))

-- a flat map of the planarised graph of any orders is a mesh
abbrev pub WebsAreMeshes : Type 0
WebsAreMeshes =
    (g : Graph) (edges : List ℕ) (ord : ℕ → List ℕ) (next : ℕ → ℕ) → IsGraph g → IsOrders g.ends edges ord → IsFlat (web_of g edges ord) next →
    IsMesh g edges (length (crossings_of edges ord)) (web_of g edges ord) next (walk_in_web edges ord)

-- so edges that touch at their crossings can be drawn apart, simply, with no more crossings
abbrev pub TouchingOrdersGiveDrawings : Type 0
TouchingOrdersGiveDrawings =
    (g : Graph) (ord : ℕ → List ℕ) (next : ℕ → ℕ) → IsGraph g → IsOrders g.ends (edges_of g) ord → IsFlat (web_of g (edges_of g) ord) next →
    IsSimplyAtMost g (crossing_count g ord)

-- a simple drawing is a loose drawing, whose further nodes are its crossings
abbrev pub DrawingsAreLoose : Type 0
DrawingsAreLoose =
    (g : Graph) (edges : List ℕ) (ord : ℕ → List ℕ) (next : ℕ → ℕ) → IsGraph g → IsDrawingOfEdges g edges ord next →
    IsLoose g edges (length (crossings_of edges ord)) (web_of g edges ord) next (walk_in_web edges ord)
