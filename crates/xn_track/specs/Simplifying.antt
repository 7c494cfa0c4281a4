-- Every loose drawing gives a simple one with no more crossings.
use Rattle.std.specs.Prelude.{ℕ, ◌≤◌, Bool, List}
use Rattle.xn_model.specs.Drawing.{IsSimplyAtMost}
use Rattle.xn_model.specs.Graph.{Graph, IsGraph, edges_of}
use Rattle.xn_model.specs.Loose.{IsLoose}
use Rattle.xn_model.specs.Permutation.{count_below}
use Rattle.xn_track.specs.Tidying.{HasDrawingOf}
use Rattle.xn_track.specs.Track.{IsTrack}

-- a track gives a drawing of its edges, with no more crossings than it has nodes with four darts
abbrev pub TracksGiveDrawings : Type 0
TracksGiveDrawings =
    (g : Graph) (edges : List ℕ) (web : Graph) (next : ℕ → ℕ) (four : ℕ → Bool) (walks : ℕ → List ℕ) → IsGraph g →
    IsTrack g edges web next four walks →
    HasDrawingOf g edges (count_below web.nodes four)

-- a loose drawing is a track, whose nodes with four darts are the further ones
abbrev pub LooseDrawingsAreTracks : Type 0
LooseDrawingsAreTracks =
    (g : Graph) (edges : List ℕ) (further : ℕ) (web : Graph) (next : ℕ → ℕ) (walks : ℕ → List ℕ) → IsLoose g edges further web next walks →
    (four : ℕ → Bool) × IsTrack g edges web next four walks × (count_below web.nodes four ≤ further)

-- so it gives a drawing of its edges
abbrev pub LooseDrawingsGiveDrawings : Type 0
LooseDrawingsGiveDrawings =
    (g : Graph) (edges : List ℕ) (further : ℕ) (web : Graph) (next : ℕ → ℕ) (walks : ℕ → List ℕ) → IsLoose g edges further web next walks →
    HasDrawingOf g edges further

-- and of all edges a drawing of the graph
abbrev pub LooseDrawingsGiveSimpleOnes : Type 0
LooseDrawingsGiveSimpleOnes =
    (g : Graph) (further : ℕ) (web : Graph) (next : ℕ → ℕ) (walks : ℕ → List ℕ) → IsLoose g (edges_of g) further web next walks → IsSimplyAtMost g further
