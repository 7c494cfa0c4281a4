use Rattle.xn_simple.proofs.Drawn.{touching_edges_come_apart}
use Rattle.xn_simple.proofs.laws.touching.Goals as goal

pub returns : goal.returns
returns c = touching_edges_come_apart
