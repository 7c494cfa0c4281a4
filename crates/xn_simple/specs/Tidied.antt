-- Walks that meet simply at the nodes that are still named, over a map that stays as it is: they are a drawing.
use Rattle.std.specs.Prelude.{◌≡◌, ◌≢◌, ℕ, ◌*◌, ◌<◌, ◌≤◌, ◌&&◌, Bool, true, List, [], ◌∷◌, length, map, filter, if◌then◌else◌}
use Rattle.std.specs.List.{flat_map}
use Rattle.xn_model.specs.Graph.{Graph, Independent, IsGraph}
use Rattle.xn_model.specs.Lists.{at, has}
use Rattle.xn_model.specs.Map.{IsMap, reverse_of, tail_of}
use Rattle.xn_model.specs.Orders.{crossings_of}
use Rattle.xn_model.specs.Permutation.{count_below}
use Rattle.xn_model.specs.Web.{web_of}
use Rattle.xn_genus.specs.Part.{PassesOver}
use Rattle.xn_track.specs.Tidying.{IsDrawingOfEdges, is_met, other_at}
use Rattle.xn_track.specs.Track.{passed}
use Rattle.xn_simple.specs.Loosened.{IsLoosened}

-- v is named, and another walk than that of e meets it
abbrev pub is_crossed : List ℕ → List (ℕ × ℕ) → (ℕ → Bool) → (ℕ → List ℕ) → ℕ → ℕ → Bool
is_crossed edges ends four walks e v = four v && is_met edges ends walks e v

-- along the walk of e the edges that it crosses
abbrev pub order_by_walks : List ℕ → List (ℕ × ℕ) → (ℕ → Bool) → (ℕ → List ℕ) → ℕ → List ℕ
order_by_walks edges ends four walks e =
    if has edges e then map (other_at edges ends walks e) (filter (is_crossed edges ends four walks e) (passed ends (walks e))) else []

-- after the dart d of a walk: both darts at each node that passes the test, and the reverse of the last dart
abbrev pub starts_past : List (ℕ × ℕ) → (ℕ → Bool) → ℕ → List ℕ → List ℕ
starts_past ends test d [] = reverse_of d ∷ []
starts_past ends test d (e ∷ ds) = if test (tail_of ends e) then reverse_of d ∷ e ∷ starts_past ends test e ds else starts_past ends test e ds

-- the darts of a walk at its ends and at those nodes
abbrev pub walk_starts : List (ℕ × ℕ) → (ℕ → Bool) → List ℕ → List ℕ
walk_starts ends test [] = []
walk_starts ends test (d ∷ ds) = d ∷ starts_past ends test d ds

-- those of all walks, at their ends and their crossings
abbrev pub starts_by_walks : List ℕ → List (ℕ × ℕ) → (ℕ → Bool) → (ℕ → List ℕ) → List ℕ
starts_by_walks edges ends four walks = flat_map (λ e. walk_starts ends (is_crossed edges ends four walks e) (walks e)) edges

-- at named nodes no walk comes twice, walks of edges with a common end don't meet, and two walks meet at most once
pub record MeetSimplyAt (g : Graph) (edges : List ℕ) (ends : List (ℕ × ℕ)) (four : ℕ → Bool) (walks : ℕ → List ℕ) : Type 0 where
  pub itself : (e i j : ℕ) → has edges e ≡ true → i < length (passed ends (walks e)) → j < length (passed ends (walks e)) →
      four (at (passed ends (walks e)) i) ≡ true → at (passed ends (walks e)) i ≡ at (passed ends (walks e)) j → i ≡ j
  pub apart : (e f v : ℕ) → has edges e ≡ true → has edges f ≡ true → e ≢ f → four v ≡ true → has (passed ends (walks e)) v ≡ true →
      has (passed ends (walks f)) v ≡ true → Independent g.ends e f
  pub one : (e f u v : ℕ) → has edges e ≡ true → has edges f ≡ true → e ≢ f → four u ≡ true → four v ≡ true →
      has (passed ends (walks e)) u ≡ true → has (passed ends (walks f)) u ≡ true →
      has (passed ends (walks e)) v ≡ true → has (passed ends (walks f)) v ≡ true → u ≡ v

-- the darts at the ends of the walks and at the crossings, each followed by the next of them round its node, are a drawing
pub record IsTidied (g : Graph) (edges : List ℕ) (web : Graph) (next : ℕ → ℕ) (four : ℕ → Bool) (walks : ℕ → List ℕ) : Type 0 where
  pub below : (x : ℕ) → x < length (starts_by_walks edges web.ends four walks) → at (starts_by_walks edges web.ends four walks) x < 2 * length web.ends
  pub apart : (x y : ℕ) → x < length (starts_by_walks edges web.ends four walks) → y < length (starts_by_walks edges web.ends four walks) →
      at (starts_by_walks edges web.ends four walks) x ≡ at (starts_by_walks edges web.ends four walks) y → x ≡ y
  pub size : length (starts_by_walks edges web.ends four walks) ≡ 2 * length (web_of g edges (order_by_walks edges web.ends four walks)).ends
  pub drawing : (turns : ℕ → ℕ) →
      PassesOver (length (starts_by_walks edges web.ends four walks)) (at (starts_by_walks edges web.ends four walks)) next turns →
      IsDrawingOfEdges g edges (order_by_walks edges web.ends four walks) turns
  pub few : length (crossings_of edges (order_by_walks edges web.ends four walks)) ≤ count_below web.nodes four

-- where no step is left the walks are a drawing, with no more crossings than there are named nodes
abbrev pub LoosenedWalksAreDrawings : Type 0
LoosenedWalksAreDrawings =
    (g : Graph) (edges : List ℕ) (web : Graph) (next : ℕ → ℕ) (four : ℕ → Bool) (walks : ℕ → List ℕ) → IsGraph g →
    g.nodes ≤ web.nodes → IsMap web.nodes web.ends next → IsLoosened g edges web next four walks → MeetSimplyAt g edges web.ends four walks → IsTidied g edges web next four walks
