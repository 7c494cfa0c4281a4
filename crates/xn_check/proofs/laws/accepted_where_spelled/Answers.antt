use Rattle.xn_check.proofs.CheckLaw.{accepted_where_spelled}
use Rattle.xn_check.proofs.laws.accepted_where_spelled.Goals as goal

pub returns : goal.returns
returns c = accepted_where_spelled
