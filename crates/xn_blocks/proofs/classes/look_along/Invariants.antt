use Rattle.xn_blocks.specs.Growth.{lists_in}
use Rattle.xn_blocks.specs.Lows.{AreNoted}
use Rattle.xn_blocks.proofs.classes.look_along.Given as goal

abbrev pub invariant-loop-d : goal.invariant-loop-d
invariant-loop-d l = AreNoted l.web (lists_in l.forest) l.d l.low
