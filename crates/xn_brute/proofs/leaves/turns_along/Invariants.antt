use Rattle.std.proofs.Common.{◌≡◌, ◌+◌, ◌-◌, ◌≤◌, drop, length}
use Rattle.xn_kinds.specs.Row.{Values}
use Rattle.xn_brute.specs.Known.{FitsKnown, known_of}
use Rattle.xn_brute.specs.Leaf.{turns_along}
use Rattle.xn_brute.proofs.leaves.turns_along.Given as goal

abbrev pub invariant-loop-i : goal.invariant-loop-i
invariant-loop-i l = record {
  within : l.i ≤ length l.list + 1;
  small : l.sum + 1 ≤ l.i;
  value : (v : Values) → FitsKnown (known_of l.known) v → l.sum + turns_along v l.e (drop (l.i - 1) l.list) ≡ turns_along v l.e l.list;
}
