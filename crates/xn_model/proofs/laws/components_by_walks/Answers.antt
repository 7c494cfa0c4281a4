use Rattle.xn_model.proofs.ComponentWalks.{components_are_by_walks, labels_are_by_walks}
use Rattle.xn_model.proofs.laws.components_by_walks.Goals as goal

pub returns-clause-labels : goal.returns-clause-labels
returns-clause-labels c = labels_are_by_walks

pub returns-clause-count : goal.returns-clause-count
returns-clause-count c = components_are_by_walks
