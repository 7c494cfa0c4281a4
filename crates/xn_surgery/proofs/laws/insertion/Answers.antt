use Rattle.xn_surgery.proofs.Insert.{components_join, components_stay, map_more}
use Rattle.xn_surgery.proofs.InsertFlat.{insertion_flat, insertion_joins, insertion_not_flat, insertion_splits}
use Rattle.xn_surgery.proofs.laws.insertion.Goals as goal

pub returns-clause-map : goal.returns-clause-map
returns-clause-map c = map_more

pub returns-clause-split : goal.returns-clause-split
returns-clause-split c = insertion_splits

pub returns-clause-join : goal.returns-clause-join
returns-clause-join c = insertion_joins

pub returns-clause-joined : goal.returns-clause-joined
returns-clause-joined c = components_stay

pub returns-clause-apart : goal.returns-clause-apart
returns-clause-apart c = components_join

pub returns-clause-flat : goal.returns-clause-flat
returns-clause-flat c = insertion_flat

pub returns-clause-others : goal.returns-clause-others
returns-clause-others c = insertion_not_flat
