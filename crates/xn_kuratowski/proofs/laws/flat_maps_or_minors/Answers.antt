use Rattle.xn_kuratowski.proofs.Theorem.{flat_or_minor}
use Rattle.xn_kuratowski.proofs.laws.flat_maps_or_minors.Goals as goal

pub returns : goal.returns
returns c = flat_or_minor
