use Rattle.xn_track.proofs.Cutting.{cutting_leaves_a_map}
use Rattle.xn_track.proofs.laws.cutting.Goals as goal

pub returns : goal.returns
returns c = cutting_leaves_a_map
