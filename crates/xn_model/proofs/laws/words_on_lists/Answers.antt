use Rattle.xn_model.proofs.Counts.{count-not}
use Rattle.xn_model.proofs.Has.{has_by_place, has_in_joined}
use Rattle.xn_model.proofs.laws.words_on_lists.Goals as goal

pub returns-clause-place : goal.returns-clause-place
returns-clause-place c = has_by_place

pub returns-clause-joined : goal.returns-clause-joined
returns-clause-joined c = has_in_joined

pub returns-clause-counts : goal.returns-clause-counts
returns-clause-counts c = count-not
