use Rattle.xn_track.proofs.Loose.{loose_drawings_are_tracks}
use Rattle.xn_track.proofs.Simplify.{loose_drawings_give_drawings, loose_drawings_give_simple_ones, tracks_give_drawings}
use Rattle.xn_track.proofs.laws.simplifying.Goals as goal

pub returns-clause-tracks : goal.returns-clause-tracks
returns-clause-tracks c = tracks_give_drawings

pub returns-clause-loose : goal.returns-clause-loose
returns-clause-loose c = loose_drawings_are_tracks

pub returns-clause-drawings : goal.returns-clause-drawings
returns-clause-drawings c = loose_drawings_give_drawings

pub returns-clause-simple : goal.returns-clause-simple
returns-clause-simple c = loose_drawings_give_simple_ones
