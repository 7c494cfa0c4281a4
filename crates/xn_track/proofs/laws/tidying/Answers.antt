use Rattle.xn_track.proofs.Tidy.{tracks_that_meet_simply_are_drawings}
use Rattle.xn_track.proofs.laws.tidying.Goals as goal

pub returns : goal.returns
returns c = tracks_that_meet_simply_are_drawings
