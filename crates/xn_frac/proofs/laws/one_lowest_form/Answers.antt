use Rattle.xn_frac.proofs.RatioLaws.{one_lowest_form}
use Rattle.xn_frac.proofs.laws.one_lowest_form.Goals as goal

pub returns : goal.returns
returns c = one_lowest_form
