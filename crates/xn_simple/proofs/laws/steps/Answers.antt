use Rattle.xn_simple.proofs.Loosened.{beginnings_change, closed_parts_go, middles_change}
use Rattle.xn_simple.proofs.laws.steps.Goals as goal

pub returns-clause-closed : goal.returns-clause-closed
returns-clause-closed c = closed_parts_go

pub returns-clause-beginnings : goal.returns-clause-beginnings
returns-clause-beginnings c = beginnings_change

pub returns-clause-middles : goal.returns-clause-middles
returns-clause-middles c = middles_change
