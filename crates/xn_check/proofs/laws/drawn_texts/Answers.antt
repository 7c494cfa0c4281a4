use Rattle.xn_check.proofs.DrawLaw.{drawn_where_spelled}
use Rattle.xn_check.proofs.laws.drawn_texts.Goals as goal

pub returns : goal.returns
returns c = drawn_where_spelled
