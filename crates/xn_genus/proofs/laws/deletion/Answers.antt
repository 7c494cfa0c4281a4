use Rattle.xn_genus.proofs.Delete.{flat_left, joins_faces, keeps_components, map_left, splits_a_component, splits_a_face}
use Rattle.xn_genus.proofs.laws.deletion.Goals as goal

pub returns-clause-map : goal.returns-clause-map
returns-clause-map c = map_left

pub returns-clause-split : goal.returns-clause-split
returns-clause-split c = splits_a_face

pub returns-clause-join : goal.returns-clause-join
returns-clause-join c = joins_faces

pub returns-clause-joined : goal.returns-clause-joined
returns-clause-joined c = keeps_components

pub returns-clause-bridge : goal.returns-clause-bridge
returns-clause-bridge c = splits_a_component

pub returns-clause-flat : goal.returns-clause-flat
returns-clause-flat c = flat_left
