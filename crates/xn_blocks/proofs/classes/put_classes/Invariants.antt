use Rattle.xn_blocks.specs.Growth.{lists_in}
use Rattle.xn_blocks.specs.Lows.{AreClassed}
use Rattle.xn_blocks.proofs.classes.put_classes.Given as goal

abbrev pub invariant-loop-i : goal.invariant-loop-i
invariant-loop-i l = AreClassed (lists_in l.forest) l.low l.i l.class
