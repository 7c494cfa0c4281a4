use Rattle.xn_frac.proofs.RatioLaws.{sums_associate}
use Rattle.xn_frac.proofs.laws.sums_associate.Goals as goal

pub returns : goal.returns
returns c = sums_associate
