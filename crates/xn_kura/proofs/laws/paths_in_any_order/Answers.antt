use Rattle.xn_kura.proofs.Turned.{subdivision_of_some}
use Rattle.xn_kura.proofs.laws.paths_in_any_order.Goals as goal

pub returns : goal.returns
returns c = subdivision_of_some
