use Rattle.xn_insert.proofs.Judged.{flawed_is_not_drawn, one_loose_flaw}
use Rattle.xn_insert.proofs.laws.flaws.Goals as goal

pub returns-clause-none : goal.returns-clause-none
returns-clause-none c = flawed_is_not_drawn

pub returns-clause-one : goal.returns-clause-one
returns-clause-one c = one_loose_flaw
