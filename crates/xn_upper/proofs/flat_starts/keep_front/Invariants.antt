use Rattle.std.proofs.Common.{◌-◌, ◌<◌, ◌≤◌, length}
use Rattle.xn_upper.specs.Upper.{AreKept}
use Rattle.xn_upper.proofs.flat_starts.keep_front.Given as goal

abbrev pub invariant-loop-low : goal.invariant-loop-low
invariant-loop-low l = record {
  kept : AreKept l.graph l.kept.marks.items l.kept.edges.items l.kept.map;
  order : l.low ≤ l.high;
  within : l.high ≤ length l.list;
  some : 0 < l.step;
}

-- the edges of which it isn't known whether they are kept
abbrev pub decreases-loop-low : goal.decreases-loop-low
decreases-loop-low l = l.high - l.low
