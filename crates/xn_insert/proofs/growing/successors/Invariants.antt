use Rattle.std.proofs.Common.{◌≡◌, take}
use Rattle.xn_insert.proofs.growing.successors.Given as goal

abbrev pub invariant-loop-d : goal.invariant-loop-d
invariant-loop-d l = l.next.items ≡ take l.d l.map.next
