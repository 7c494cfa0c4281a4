use Rattle.xn_kinds.proofs.Examples.{branched_tree, one_row_of_k5, weak_leaf}
use Rattle.xn_kinds.proofs.laws.worked_examples.Goals as goal

pub returns-clause-k5 : goal.returns-clause-k5
returns-clause-k5 c = one_row_of_k5

pub returns-clause-weak : goal.returns-clause-weak
returns-clause-weak c = weak_leaf

pub returns-clause-branched : goal.returns-clause-branched
returns-clause-branched c = branched_tree
