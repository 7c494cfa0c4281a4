use Rattle.xn_model.specs.Lists.{at}
use Rattle.xn_orders.specs.Entries.{list_of}
use Rattle.xn_draw.specs.Touches.{IsLeastTouch}
use Rattle.xn_draw.proofs.touches.touched_by.Given as goal

-- the least so far
abbrev pub invariant-loop-i : goal.invariant-loop-i
invariant-loop-i l = IsLeastTouch (list_of l.orders l.e) (at l.map.next) l.e l.first l.i l.least
