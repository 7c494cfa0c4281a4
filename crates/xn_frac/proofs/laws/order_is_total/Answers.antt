use Rattle.xn_frac.proofs.RatioLaws.{order_is_total}
use Rattle.xn_frac.proofs.laws.order_is_total.Goals as goal

pub returns : goal.returns
returns c = order_is_total
