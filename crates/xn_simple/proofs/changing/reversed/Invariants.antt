use Rattle.std.proofs.Common.{◌≡◌, ◌-◌, drop, length}
use Rattle.xn_track.specs.Steps.{reverse_walk}
use Rattle.xn_simple.proofs.changing.reversed.Given as goal

-- the last darts, the other way
abbrev pub invariant-loop-i : goal.invariant-loop-i
invariant-loop-i l = l.darts.items ≡ reverse_walk (drop (length l.walk - l.i) l.walk)
