use Rattle.xn_check.proofs.FrontLaw.{seen_where_spelled}
use Rattle.xn_check.proofs.laws.seen_texts.Goals as goal

pub returns : goal.returns
returns c = seen_where_spelled
