-- Where walks meet simply they give orders, and the map becomes the planarised graph.
use Rattle.std.specs.Prelude.{◌≡◌, ℕ, ◌<◌, ◌≤◌, ◌==◌, ◌&&◌, Bool, true, not, List, [], ◌∷◌, length, map, filter, if◌then◌else◌}
use Rattle.std.specs.List.{list_any}
use Rattle.xn_model.specs.Drawing.{CrossesAt}
use Rattle.xn_model.specs.Graph.{Graph, IsGraph}
use Rattle.xn_model.specs.Lists.{has}
use Rattle.xn_model.specs.Map.{IsFlat}
use Rattle.xn_model.specs.Orders.{IsOrders, crossings_of}
use Rattle.xn_model.specs.Permutation.{count_below}
use Rattle.xn_model.specs.Web.{web_of}
use Rattle.xn_track.specs.Track.{IsTrack, MeetSimply, passed}

-- the first number of the list that passes, or 0
abbrev pub first_passing : (ℕ → Bool) → List ℕ → ℕ
first_passing p [] = 0
first_passing p (x ∷ xs) = if p x then x else first_passing p xs

-- f is another edge than e, and its walk meets v
abbrev pub is_other : List (ℕ × ℕ) → (ℕ → List ℕ) → ℕ → ℕ → ℕ → Bool
is_other ends walks e v f = not (f == e) && has (passed ends (walks f)) v

-- another walk than that of e meets v
abbrev pub is_met : List ℕ → List (ℕ × ℕ) → (ℕ → List ℕ) → ℕ → ℕ → Bool
is_met edges ends walks e v = list_any (is_other ends walks e v) edges

-- the edge whose walk it is
abbrev pub other_at : List ℕ → List (ℕ × ℕ) → (ℕ → List ℕ) → ℕ → ℕ → ℕ
other_at edges ends walks e v = first_passing (is_other ends walks e v) edges

-- along the walk of e the edges that it meets
abbrev pub order_along : List ℕ → List (ℕ × ℕ) → (ℕ → List ℕ) → ℕ → List ℕ
order_along edges ends walks e =
    if has edges e then map (other_at edges ends walks e) (filter (is_met edges ends walks e) (passed ends (walks e))) else []

-- the map of the planarised graph of some edges is flat, and the edges cross at each crossing
pub record IsDrawingOfEdges (g : Graph) (edges : List ℕ) (ord : ℕ → List ℕ) (next : ℕ → ℕ) : Type 0 where
  pub orders : IsOrders g.ends edges ord
  pub is_flat_map : IsFlat (web_of g edges ord) next
  pub crosses : (e f : ℕ) → e < f → has (ord e) f ≡ true → CrossesAt edges ord next e f

-- the edges have a drawing with at most so many crossings
abbrev pub HasDrawingOf : Graph → List ℕ → ℕ → Type 0
HasDrawingOf g edges most = (ord : ℕ → List ℕ) × (next : ℕ → ℕ) × IsDrawingOfEdges g edges ord next × (length (crossings_of edges ord) ≤ most)

-- the orders along the walks are those of a drawing, with no more crossings than there are nodes with four darts
abbrev pub TracksThatMeetSimplyAreDrawings : Type 0
TracksThatMeetSimplyAreDrawings =
    (g : Graph) (edges : List ℕ) (web : Graph) (next : ℕ → ℕ) (four : ℕ → Bool) (walks : ℕ → List ℕ) → IsGraph g →
    IsTrack g edges web next four walks →
    MeetSimply g edges web.ends walks →
    let ord : ℕ → List ℕ = order_along edges web.ends walks in
    (after : ℕ → ℕ) × IsDrawingOfEdges g edges ord after × (length (crossings_of edges ord) ≤ count_below web.nodes four)
