use Rattle.xn_fewer.proofs.Walks.{joined_within}
use Rattle.xn_fewer.proofs.laws.walks.Goals as goal

pub returns : goal.returns
returns c = joined_within
