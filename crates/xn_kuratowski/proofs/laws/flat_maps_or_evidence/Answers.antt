use Rattle.xn_kuratowski.proofs.Theorem.{flat_or_evidence, flat_where_no_evidence}
use Rattle.xn_kuratowski.proofs.laws.flat_maps_or_evidence.Goals as goal

pub returns-clause-either : goal.returns-clause-either
returns-clause-either c = flat_or_evidence

pub returns-clause-exact : goal.returns-clause-exact
returns-clause-exact c = flat_where_no_evidence c.evidence_excludes_flat_maps.ensures.five c.evidence_excludes_flat_maps.ensures.three_three
