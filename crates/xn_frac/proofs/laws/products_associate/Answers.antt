use Rattle.xn_frac.proofs.RatioLaws.{products_associate}
use Rattle.xn_frac.proofs.laws.products_associate.Goals as goal

pub returns : goal.returns
returns c = products_associate
