-- Some of the walks of a track or a loose drawing: only the nodes that they pass twice become crossings.
use Rattle.std.specs.Prelude.{◌≡◌, ℕ, ◌≤◌, ◌==◌, Bool, true, List, length, nat_eq, nat_lt, All}
use Rattle.std.specs.List.{IsDistinct, flat_map}
use Rattle.xn_model.specs.Drawing.{IsAtLeast}
use Rattle.xn_model.specs.Graph.{Graph, IsGraph, edges_of}
use Rattle.xn_model.specs.Lists.{has, one_if, total}
use Rattle.xn_model.specs.Loose.{IsLoose}
use Rattle.xn_model.specs.Orders.{IsEdgeList}
use Rattle.xn_model.specs.Permutation.{count_below}
use Rattle.xn_loose.specs.Renaming.{subgraph_of}
use Rattle.xn_track.specs.Tidying.{HasDrawingOf}
use Rattle.xn_track.specs.Track.{IsTrack, passed}

-- the nodes that the walks of these edges pass, as often as they do
abbrev pub all_passed : List ℕ → List (ℕ × ℕ) → (ℕ → List ℕ) → List ℕ
all_passed edges ends walks = flat_map (λ e. passed ends (walks e)) edges

-- the walks of these edges pass v twice
abbrev pub passed_twice : List ℕ → List (ℕ × ℕ) → (ℕ → List ℕ) → ℕ → Bool
passed_twice edges ends walks v = nat_lt 1 (total (λ w. one_if (w == v)) (all_passed edges ends walks))

-- a track gives a drawing with no more crossings than there are nodes that its walks pass twice
abbrev pub WalksGiveDrawings : Type 0
WalksGiveDrawings =
    (g : Graph) (edges : List ℕ) (web : Graph) (next : ℕ → ℕ) (four : ℕ → Bool) (walks : ℕ → List ℕ) → IsGraph g →
    IsTrack g edges web next four walks →
    HasDrawingOf g edges (count_below web.nodes (passed_twice edges web.ends walks))

-- so does a part of the edges of a loose drawing
abbrev pub PartsGiveDrawings : Type 0
PartsGiveDrawings =
    (g : Graph) (all part : List ℕ) (further : ℕ) (web : Graph) (next : ℕ → ℕ) (walks : ℕ → List ℕ) → IsLoose g all further web next walks →
    IsEdgeList (length g.ends) part → ((e : ℕ) → has part e ≡ true → has all e ≡ true) →
    HasDrawingOf g part (count_below web.nodes (passed_twice part web.ends walks))

-- lists of edges, none of which stands in two of them
pub record ArePartsOf (count : ℕ) (all : List ℕ) (parts : List (List ℕ)) : Type 0 where
  pub edge_lists : All (IsEdgeList count) parts
  pub within : (e : ℕ) → has (flat_map (λ part. part) parts) e ≡ true → has all e ≡ true
  pub no_edge_twice : IsDistinct nat_eq (flat_map (λ part. part) parts)

-- all parts together pass no more nodes twice than there are
abbrev pub CrossingsAddUp : Type 0
CrossingsAddUp =
    (g : Graph) (all : List ℕ) (further : ℕ) (web : Graph) (next : ℕ → ℕ) (walks : ℕ → List ℕ) → IsLoose g all further web next walks →
    (parts : List (List ℕ)) → ArePartsOf (length g.ends) all parts →
    total (λ part. count_below web.nodes (passed_twice part web.ends walks)) parts ≤ further

-- so lower bounds of the parts, each as a graph of its own, add up to one of the graph
abbrev pub BoundsAddUp : Type 0
BoundsAddUp =
    (g : Graph) (parts : List (List ℕ)) (low : List ℕ → ℕ) → IsGraph g → ArePartsOf (length g.ends) (edges_of g) parts →
    All (λ part. IsAtLeast (subgraph_of g part) (low part)) parts → IsAtLeast g (total low parts)
