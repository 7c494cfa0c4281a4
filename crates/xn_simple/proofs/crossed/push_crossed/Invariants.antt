use Rattle.std.proofs.Common.{◌≡◌, ◌+◌, ◌++◌, drop, length}
use Rattle.xn_model.specs.Lists.{at, total}
use Rattle.xn_simple.specs.Crossed.{crossed_lists}
use Rattle.xn_simple.proofs.crossed.push_crossed.Given as goal

-- the lists so far, and then those of the edges that are left, which have the rest of the segments
abbrev pub invariant-loop-e : goal.invariant-loop-e
invariant-loop-e l = record {
  left : l.first + (length (drop l.e l.orders) + total length (drop l.e l.orders)) ≡ length l.orders + total length l.orders;
  lists : l.crossed ++ crossed_lists (at l.map.next) l.first (drop l.e l.orders) ≡ l.initial.crossed ++ crossed_lists (at l.map.next) 0 l.orders;
}
