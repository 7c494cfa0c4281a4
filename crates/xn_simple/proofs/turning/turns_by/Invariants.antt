use Rattle.xn_model.specs.Lists.{at}
use Rattle.xn_simple.proofs.Turns.{OverFirst}
use Rattle.xn_simple.proofs.turning.turns_by.Given as goal

-- the turns of the first darts
abbrev pub invariant-loop-d : goal.invariant-loop-d
invariant-loop-d l = OverFirst (at l.map.next) l.starts l.turns.items l.d-index
