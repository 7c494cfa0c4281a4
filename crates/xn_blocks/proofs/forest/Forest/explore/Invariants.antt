use Rattle.xn_blocks.specs.Growth.{Exploring, lists_in, still_left}
use Rattle.xn_blocks.proofs.forest.Forest.explore.Given as goal

abbrev pub invariant-loop-place : goal.invariant-loop-place
invariant-loop-place l = Exploring l.web (lists_in l.fn.self) (lists_in l.self) l.root l.place

abbrev pub decreases-loop-place : goal.decreases-loop-place
decreases-loop-place l = still_left l.web (lists_in l.self) l.place
