use Rattle.xn_loose.proofs.Inserted.{edges_come_in}
use Rattle.xn_loose.proofs.IntoLoose.{edges_come_into_loose_drawings}
use Rattle.xn_loose.proofs.Joining.{edges_join_components}
use Rattle.xn_loose.proofs.laws.inserting.Goals as goal

pub returns-clause-track : goal.returns-clause-track
returns-clause-track c = edges_come_in

pub returns-clause-loose : goal.returns-clause-loose
returns-clause-loose c = edges_come_into_loose_drawings

pub returns-clause-apart : goal.returns-clause-apart
returns-clause-apart c = edges_join_components
