use Rattle.xn_sound.proofs.Leaves.{leaves_have_crossings}
use Rattle.xn_sound.proofs.Trees.{drawings_lie_in_children, trees_prove}
use Rattle.xn_sound.proofs.laws.trees.Goals as goal

pub returns-clause-children : goal.returns-clause-children
returns-clause-children c = drawings_lie_in_children

pub returns-clause-leaves : goal.returns-clause-leaves
returns-clause-leaves c = leaves_have_crossings c.drawings_lie_in_states.ensures.values

pub returns-clause-proves : goal.returns-clause-proves
returns-clause-proves c = trees_prove c.drawings_lie_in_states.ensures.values
