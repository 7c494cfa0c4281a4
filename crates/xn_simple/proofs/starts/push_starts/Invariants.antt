use Rattle.std.proofs.Common.{◌≡◌, ◌+◌, ◌++◌, drop, length}
use Rattle.xn_model.specs.Lists.{at, total}
use Rattle.xn_simple.specs.Crossed.{starts_of}
use Rattle.xn_simple.proofs.starts.push_starts.Given as goal

-- those of the edges so far, and then those of the edges that are left, which have the rest of the segments
abbrev pub invariant-loop-e : goal.invariant-loop-e
invariant-loop-e l = record {
  left : l.first + (length (drop l.e l.orders) + total length (drop l.e l.orders)) ≡ length l.orders + total length l.orders;
  starts : l.starts.items ++ starts_of (at l.map.next) l.first (drop l.e l.orders) ≡ l.initial.starts.items ++ starts_of (at l.map.next) 0 l.orders;
}
