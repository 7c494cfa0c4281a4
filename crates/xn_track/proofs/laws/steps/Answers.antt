use Rattle.xn_track.proofs.Steps.{beginnings_are_exchanged, closed_parts_are_cut_off, middles_are_exchanged}
use Rattle.xn_track.proofs.laws.steps.Goals as goal

pub returns-clause-closed : goal.returns-clause-closed
returns-clause-closed c = closed_parts_are_cut_off

pub returns-clause-beginnings : goal.returns-clause-beginnings
returns-clause-beginnings c = beginnings_are_exchanged

pub returns-clause-middles : goal.returns-clause-middles
returns-clause-middles c = middles_are_exchanged
