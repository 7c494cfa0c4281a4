use Rattle.xn_frac.proofs.RatioLaws.{sums_keep_order}
use Rattle.xn_frac.proofs.laws.sums_keep_order.Goals as goal

pub returns : goal.returns
returns c = sums_keep_order
