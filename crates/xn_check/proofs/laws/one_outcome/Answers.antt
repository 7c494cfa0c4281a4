use Rattle.xn_check.proofs.OneOutcome.{one_draw_verdict, one_front_verdict, one_verdict}
use Rattle.xn_check.proofs.laws.one_outcome.Goals as goal

pub returns-clause-verdict : goal.returns-clause-verdict
returns-clause-verdict c = one_verdict

pub returns-clause-draw : goal.returns-clause-draw
returns-clause-draw c = one_draw_verdict

pub returns-clause-front : goal.returns-clause-front
returns-clause-front c = one_front_verdict
