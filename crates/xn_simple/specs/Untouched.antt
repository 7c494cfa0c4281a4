-- Edges that touch are drawn apart.
use Rattle.std.specs.Prelude.{◌≡◌, ℕ, ◌*◌, ◌≤◌, List, length}
use Rattle.std.specs.List.{flat_map}
use Rattle.xn_model.specs.Drawing.{drawn_web, order_of}
use Rattle.xn_model.specs.Graph.{Graph, IsGraph, edges_of}
use Rattle.xn_model.specs.Lists.{at}
use Rattle.xn_model.specs.Map.{IsFlat}
use Rattle.xn_model.specs.Orders.{IsOrders, crossings_of}
use Rattle.xn_model.specs.Web.{first_segment, web_of}
use Rattle.xn_map.specs.Listed.{ListedMap}
use Rattle.xn_track.specs.Tidying.{IsDrawingOfEdges}
use Rattle.xn_simple.specs.Crossed.{crossed_order, starts_along}
use Rattle.xn_simple.specs.Turning.{AreStarts, TurnsAlong}

-- lists of all edges, and a flat map of their planarised graph: at a crossing of it the edges may touch
pub record MayTouch (g : Graph) (lists : List (List ℕ)) (map : ListedMap) : Type 0 where
  pub lists_fit : length lists ≡ length g.ends
  pub orders : IsOrders g.ends (edges_of g) (order_of g lists)
  pub web : map.web ≡ drawn_web g lists
  pub is_flat_map : IsFlat (drawn_web g lists) (at map.next)

-- the darts at the ends and the crossings of the edges, edge by edge
abbrev pub starts_in : List ℕ → (ℕ → List ℕ) → (ℕ → ℕ) → List ℕ
starts_in edges ord next = flat_map (λ e. starts_along next (first_segment edges ord e) (ord e)) edges

-- where these darts turn as in the map, those edges cross that crossed
pub record IsUntouched (g : Graph) (edges : List ℕ) (ord : ℕ → List ℕ) (next : ℕ → ℕ) : Type 0 where
  pub starts : AreStarts (2 * length (web_of g edges ord).ends) next (starts_in edges ord next)
  pub size : length (starts_in edges ord next) ≡ 2 * length (web_of g edges (crossed_order edges ord next)).ends
  pub drawing : (turns : List ℕ) → TurnsAlong next (starts_in edges ord next) turns → IsDrawingOfEdges g edges (crossed_order edges ord next) (at turns)
  pub no_more : length (crossings_of edges (crossed_order edges ord next)) ≤ length (crossings_of edges ord)

-- in a flat map of the planarised graph the edges that touch come apart
abbrev pub TouchingEdgesComeApart : Type 0
TouchingEdgesComeApart =
    (g : Graph) (edges : List ℕ) (ord : ℕ → List ℕ) (next : ℕ → ℕ) → IsGraph g → IsOrders g.ends edges ord → IsFlat (web_of g edges ord) next →
    IsUntouched g edges ord next
