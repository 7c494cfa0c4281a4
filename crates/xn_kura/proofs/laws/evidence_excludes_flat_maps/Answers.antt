use Rattle.xn_kura.proofs.Excludes.{no_flat, no_flat_five, no_flat_three_three}
use Rattle.xn_kura.proofs.laws.evidence_excludes_flat_maps.Goals as goal

pub returns-clause-five : goal.returns-clause-five
returns-clause-five c = no_flat_five

pub returns-clause-three_three : goal.returns-clause-three_three
returns-clause-three_three c = no_flat_three_three

pub returns-clause-either : goal.returns-clause-either
returns-clause-either c = no_flat
