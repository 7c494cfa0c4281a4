use Rattle.xn_track.proofs.Examples.{curled_edge_is_straightened}
use Rattle.xn_track.proofs.laws.worked_examples.Goals as goal

pub returns : goal.returns
returns c = curled_edge_is_straightened
