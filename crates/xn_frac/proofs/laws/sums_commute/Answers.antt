use Rattle.xn_frac.proofs.RatioLaws.{sums_commute}
use Rattle.xn_frac.proofs.laws.sums_commute.Goals as goal

pub returns : goal.returns
returns c = sums_commute
