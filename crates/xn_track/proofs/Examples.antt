-- The edge that goes round its loop.
use Rattle.std.proofs.Common.{◌≡◌, ℕ, Bool, [], ◌∷◌, refl, arith}
use Rattle.xn_model.specs.Examples.{curled_turns, curled_web, one_edge}
use Rattle.xn_model.specs.Graph.{Graph}
use Rattle.xn_model.specs.Lists.{at}
use Rattle.xn_model.specs.Permutation.{count_below}
use Rattle.xn_model.proofs.Examples.{curled_edge}
use Rattle.xn_track.specs.Examples.{CurledEdgeIsStraightened, curled_walks}
use Rattle.xn_track.specs.Steps.{with_walk}
use Rattle.xn_track.specs.Track.{IsTrack}
use Rattle.xn_track.proofs.Loose.{loose_drawings_are_tracks}
use Rattle.xn_track.proofs.Relink.{passes_can_be_relinked}
use Rattle.xn_track.proofs.Simplify.{drawn_within}
use Rattle.xn_track.proofs.Steps.{closed_parts_are_cut_off}

straightened : (more : Graph) × (after : ℕ → ℕ) × (fewer : ℕ → Bool)
    × IsTrack one_edge (0 ∷ []) more after fewer (with_walk curled_walks 0 (0 ∷ 4 ∷ [])) × (count_below more.nodes fewer ≡ 0)
straightened =
    let loose = curled_edge.loose in
    let t = loose_drawings_are_tracks one_edge (0 ∷ []) 1 curled_web (at curled_turns) curled_walks loose in
    let step = closed_parts_are_cut_off one_edge (0 ∷ []) curled_web (at curled_turns) t.0 curled_walks loose.is_graph t.1 0 0 1 refl (omega arith) (omega arith) refl in
    let r = passes_can_be_relinked 2 curled_web (at curled_turns) t.0 t.1.ground _ _ step.may in
    (r.0, r.1, r.2, step.leaves r.0 r.1 r.2 r.3, let few = t.2 in let less = r.3.count in omega (arith, few, less))

pub curled_edge_is_straightened : CurledEdgeIsStraightened
curled_edge_is_straightened = record {
  track = straightened;
  drawing = let t = straightened in drawn_within one_edge (0 ∷ []) curled_edge.loose.is_graph 0 t.0 t.1 t.2 (with_walk curled_walks 0 (0 ∷ 4 ∷ [])) t.3 (let none = t.4 in omega (arith, none));
}
