use Rattle.xn_orders.proofs.LoopFree.{no_loop}
use Rattle.xn_orders.proofs.laws.no_loops.Goals as goal

pub returns : goal.returns
returns c = no_loop
