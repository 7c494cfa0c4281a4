use Rattle.xn_map.proofs.Rotations.{flaws_are_no_maps}
use Rattle.xn_map.proofs.laws.flaws_are_no_maps.Goals as goal

pub returns : goal.returns
returns c = flaws_are_no_maps
