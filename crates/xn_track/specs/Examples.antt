-- The edge that goes round its loop: the loop is cut off.
use Rattle.std.specs.Prelude.{◌≡◌, ℕ, Bool, List, [], ◌∷◌}
use Rattle.xn_model.specs.Examples.{one_edge}
use Rattle.xn_model.specs.Graph.{Graph}
use Rattle.xn_model.specs.Permutation.{count_below}
use Rattle.xn_track.specs.Steps.{with_walk}
use Rattle.xn_track.specs.Tidying.{HasDrawingOf}
use Rattle.xn_track.specs.Track.{IsTrack}

-- the walk over the loop
abbrev pub curled_walks : ℕ → List ℕ
curled_walks e = 0 ∷ 2 ∷ 4 ∷ []

-- a track is left that passes no node twice, and so a drawing without crossings
pub record CurledEdgeIsStraightened : Type 0 where
  pub track : (more : Graph) × (after : ℕ → ℕ) × (fewer : ℕ → Bool)
      × IsTrack one_edge (0 ∷ []) more after fewer (with_walk curled_walks 0 (0 ∷ 4 ∷ [])) × (count_below more.nodes fewer ≡ 0)
  pub drawing : HasDrawingOf one_edge (0 ∷ []) 0
