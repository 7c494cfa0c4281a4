use Rattle.xn_surgery.proofs.Resolve.{map_resolved, resolution_flat}
use Rattle.xn_surgery.proofs.laws.resolution.Goals as goal

pub returns-clause-map : goal.returns-clause-map
returns-clause-map c = map_resolved

pub returns-clause-flat : goal.returns-clause-flat
returns-clause-flat c = resolution_flat
