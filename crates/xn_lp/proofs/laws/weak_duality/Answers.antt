use Rattle.xn_lp.proofs.Duality.{weak_duality}
use Rattle.xn_lp.proofs.laws.weak_duality.Goals as goal

pub returns : goal.returns
returns c = weak_duality
