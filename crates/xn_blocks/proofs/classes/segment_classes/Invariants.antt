use Rattle.xn_blocks.specs.Lows.{HaveClasses}
use Rattle.xn_blocks.proofs.classes.segment_classes.Given as goal

abbrev pub invariant-loop-s : goal.invariant-loop-s
invariant-loop-s l = HaveClasses l.web l.number l.class l.s l.keys.items
