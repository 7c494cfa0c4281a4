use Rattle.xn_check.proofs.NotRefused.{drawings_are_taken, fronts_are_taken, proofs_are_taken}
use Rattle.xn_check.proofs.laws.none_refused.Goals as goal

pub returns-clause-verdict : goal.returns-clause-verdict
returns-clause-verdict c = proofs_are_taken

pub returns-clause-draw : goal.returns-clause-draw
returns-clause-draw c = drawings_are_taken

pub returns-clause-front : goal.returns-clause-front
returns-clause-front c = fronts_are_taken
