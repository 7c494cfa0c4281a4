use Rattle.xn_surgery.proofs.Split.{flat_split, joins_faces, keeps_components, map_split, splits_a_component, splits_a_face}
use Rattle.xn_surgery.proofs.laws.splitting.Goals as goal

pub returns-clause-map : goal.returns-clause-map
returns-clause-map c = map_split

pub returns-clause-split : goal.returns-clause-split
returns-clause-split c = splits_a_face

pub returns-clause-join : goal.returns-clause-join
returns-clause-join c = joins_faces

pub returns-clause-joined : goal.returns-clause-joined
returns-clause-joined c = keeps_components

pub returns-clause-apart : goal.returns-clause-apart
returns-clause-apart c = splits_a_component

pub returns-clause-flat : goal.returns-clause-flat
returns-clause-flat c = flat_split
