use Rattle.xn_kinds.proofs.States.{all_lie_in_empty, values_are_in_the_box}
use Rattle.xn_kinds.proofs.laws.drawings_lie_in_states.Goals as goal

pub returns-clause-empty : goal.returns-clause-empty
returns-clause-empty c = all_lie_in_empty

pub returns-clause-values : goal.returns-clause-values
returns-clause-values c = values_are_in_the_box
