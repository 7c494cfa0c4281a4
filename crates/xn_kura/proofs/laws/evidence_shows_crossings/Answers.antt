use Rattle.xn_kura.proofs.CrossingFree.{flat_where_none_cross}
use Rattle.xn_kura.proofs.Landmarks.{least_by_evidence}
use Rattle.xn_kura.proofs.laws.evidence_shows_crossings.Goals as goal

pub returns-clause-flat : goal.returns-clause-flat
returns-clause-flat c = flat_where_none_cross

pub returns-clause-crossings : goal.returns-clause-crossings
returns-clause-crossings c = least_by_evidence
