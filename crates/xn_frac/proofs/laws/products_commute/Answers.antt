use Rattle.xn_frac.proofs.RatioLaws.{products_commute}
use Rattle.xn_frac.proofs.laws.products_commute.Goals as goal

pub returns : goal.returns
returns c = products_commute
