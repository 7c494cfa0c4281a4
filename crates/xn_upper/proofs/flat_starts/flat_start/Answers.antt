use Rattle.std.proofs.Common.{◌-◌, length, refl}
use Rattle.xn_upper.proofs.Whole.{front_below}
use Rattle.xn_upper.proofs.flat_starts.flat_start.Goals as goal

pub keep_front-requires-clause-list : goal.keep_front-requires-clause-list
keep_front-requires-clause-list c = front_below c.args.graph.now c.args.order.now c.requires c.loop-i.i (length c.args.order.now - c.loop-i.i) refl
