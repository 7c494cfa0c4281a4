use Rattle.xn_lp.proofs.Duality.{answer_decides}
use Rattle.xn_lp.proofs.laws.answer_decides.Goals as goal

pub returns : goal.returns
returns c = answer_decides
