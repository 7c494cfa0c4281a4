use Rattle.xn_frac.proofs.RatioLaws.{products_spread}
use Rattle.xn_frac.proofs.laws.products_spread.Goals as goal

pub returns : goal.returns
returns c = products_spread
