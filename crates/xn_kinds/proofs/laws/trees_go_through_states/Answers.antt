use Rattle.xn_kinds.proofs.Children.{children_are_states, empty_is_state}
use Rattle.xn_kinds.proofs.laws.trees_go_through_states.Goals as goal

pub returns-clause-empty : goal.returns-clause-empty
returns-clause-empty c = empty_is_state

pub returns-clause-children : goal.returns-clause-children
returns-clause-children c = children_are_states
