use Rattle.xn_kuratowski.proofs.Cores.{cores_are_found, cores_are_subdivisions}
use Rattle.xn_kuratowski.proofs.laws.cores.Goals as goal

pub returns-clause-subdivisions : goal.returns-clause-subdivisions
returns-clause-subdivisions c = cores_are_subdivisions c.evidence_excludes_flat_maps.ensures.five c.evidence_excludes_flat_maps.ensures.three_three

pub returns-clause-found : goal.returns-clause-found
returns-clause-found c = cores_are_found (returns-clause-subdivisions c)
