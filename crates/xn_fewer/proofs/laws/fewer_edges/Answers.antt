use Rattle.xn_fewer.proofs.Fewer.{fewer_edges_stay_flat}
use Rattle.xn_fewer.proofs.laws.fewer_edges.Goals as goal

pub returns : goal.returns
returns c = fewer_edges_stay_flat
