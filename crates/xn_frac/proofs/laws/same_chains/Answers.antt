use Rattle.xn_frac.proofs.Ratios.{Same-trans}
use Rattle.xn_frac.proofs.laws.same_chains.Goals as goal

pub returns : goal.returns
returns c = Same-trans
