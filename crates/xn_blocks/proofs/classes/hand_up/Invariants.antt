use Rattle.xn_blocks.specs.Growth.{lists_in}
use Rattle.xn_blocks.specs.Lows.{AreHandedUp}
use Rattle.xn_blocks.proofs.classes.hand_up.Given as goal

abbrev pub invariant-loop-k : goal.invariant-loop-k
invariant-loop-k l = AreHandedUp (lists_in l.forest) l.k l.fn.low l.low
