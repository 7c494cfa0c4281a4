use Rattle.std.proofs.Common.{◌≡◌, ◌+◌, ◌*◌, ◌≤◌, drop}
use Rattle.xn_kinds.specs.Row.{Values}
use Rattle.xn_brute.specs.Known.{FitsKnown, known_of}
use Rattle.xn_brute.specs.Leaf.{independent_part}
use Rattle.xn_brute.proofs.Sums.{each_pair}
use Rattle.xn_brute.proofs.leaves.pairs_value.Given as goal

abbrev pub invariant-loop-i : goal.invariant-loop-i
invariant-loop-i l = record {
  small : l.sum ≤ 1000 * l.i;
  value : (v : Values) → FitsKnown (known_of l.known) v → l.sum + each_pair (independent_part l.graph l.row v) (drop l.i l.edges) ≡ each_pair (independent_part l.graph l.row v) l.edges;
}
