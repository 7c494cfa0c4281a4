use Rattle.std.proofs.Common.{length}
use Rattle.xn_model.specs.Lists.{at, position_in}
use Rattle.xn_model.specs.Permutation.{walk}
use Rattle.xn_simple.proofs.Turns.{IsOnTheWay}
use Rattle.xn_simple.proofs.turning.place_after.Given as goal

-- on the way from d no listed dart was met
abbrev pub invariant-loop-e : goal.invariant-loop-e
invariant-loop-e l = IsOnTheWay l.map l.starts l.d l.e

-- the steps from here back to d
abbrev pub decreases-loop-e : goal.decreases-loop-e
decreases-loop-e l = position_in (walk (at l.map.next) (length l.map.next) l.e) l.d
