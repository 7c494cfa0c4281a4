use Rattle.xn_frac.proofs.RatioLaws.{quotients_undo_products}
use Rattle.xn_frac.proofs.laws.quotients_undo_products.Goals as goal

pub returns : goal.returns
returns c = quotients_undo_products
