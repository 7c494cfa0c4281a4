use Rattle.xn_check.proofs.Fitting.{forms_fit_rows}
use Rattle.xn_check.proofs.laws.forms_fit_rows.Goals as goal

pub returns : goal.returns
returns c = forms_fit_rows
