use Rattle.xn_lp.proofs.LinearForms.{least_of_form}
use Rattle.xn_lp.proofs.laws.least_of_form.Goals as goal

pub returns : goal.returns
returns c = least_of_form
