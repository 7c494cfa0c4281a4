-- Walks that cross or touch at nodes with four darts.
use Rattle.std.specs.Prelude.{◌≡◌, ℕ, ◌+◌, ◌<◌, ◌≤◌, true, List, length}
use Rattle.std.specs.List.{flat_map}
use Rattle.xn_model.specs.Graph.{Graph, IsGraph, ends_at}
use Rattle.xn_model.specs.Lists.{has}
use Rattle.xn_model.specs.Loose.{dart_count, times_walked}
use Rattle.xn_model.specs.Map.{IsFlat, WalksTo}
use Rattle.xn_model.specs.Orders.{IsEdgeList}
use Rattle.xn_track.specs.Tidying.{HasDrawingOf}
use Rattle.xn_track.specs.Track.{passed}

-- a loose drawing but that walks may leave a further node by any dart
pub record IsMesh (g : Graph) (edges : List ℕ) (further : ℕ) (web : Graph) (next : ℕ → ℕ) (walks : ℕ → List ℕ) : Type 0 where
  pub edge_list : IsEdgeList (length g.ends) edges
  pub nodes : web.nodes ≡ g.nodes + further
  pub is_flat_map : IsFlat web next
  pub lead : (e : ℕ) → has edges e ≡ true → WalksTo web.ends (ends_at g.ends e).0 (walks e) (ends_at g.ends e).1
  pub inner : (e v : ℕ) → has edges e ≡ true → has (passed web.ends (walks e)) v ≡ true → g.nodes ≤ v
  pub once : (s : ℕ) → times_walked s (flat_map walks edges) ≤ 1
  pub four : (v : ℕ) → g.nodes ≤ v → v < web.nodes → dart_count web.ends v ≡ 4

-- where two walks touch they come apart: so there is a drawing with no more crossings
abbrev pub MeshesGiveDrawings : Type 0
MeshesGiveDrawings =
    (g : Graph) (edges : List ℕ) (further : ℕ) (web : Graph) (next : ℕ → ℕ) (walks : ℕ → List ℕ) → IsGraph g → IsMesh g edges further web next walks →
    HasDrawingOf g edges further
