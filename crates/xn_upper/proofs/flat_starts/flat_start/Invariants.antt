use Rattle.std.proofs.Common.{◌-◌, ◌<◌, length}
use Rattle.xn_upper.specs.Upper.{AreKept}
use Rattle.xn_upper.proofs.flat_starts.flat_start.Given as goal

abbrev pub invariant-loop-i : goal.invariant-loop-i
invariant-loop-i l = record { kept : AreKept l.graph l.kept.marks.items l.kept.edges.items l.kept.map; some : l.i < length l.order → 0 < l.first }

-- the edges that aren't looked at
abbrev pub decreases-loop-i : goal.decreases-loop-i
decreases-loop-i l = length l.order - l.i
