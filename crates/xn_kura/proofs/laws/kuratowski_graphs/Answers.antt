use Rattle.xn_kura.proofs.Landmarks.{of_kuratowski}
use Rattle.xn_kura.proofs.laws.kuratowski_graphs.Goals as goal

pub returns : goal.returns
returns c = of_kuratowski
