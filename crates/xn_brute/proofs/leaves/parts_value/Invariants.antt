use Rattle.std.proofs.Common.{◌≡◌, drop}
use Rattle.std.specs.Prelude.{◌+ℤ◌}
use Rattle.xn_kinds.specs.Bound.{part_value, total_ℤ}
use Rattle.xn_kinds.specs.Row.{Values}
use Rattle.xn_brute.specs.Known.{FitsKnown, known_of}
use Rattle.xn_brute.specs.Leaf.{IsSmallPart}
use Rattle.xn_brute.proofs.leaves.parts_value.Given as goal

abbrev pub invariant-loop-number : goal.invariant-loop-number
invariant-loop-number l = record {
  small : IsSmallPart l.number-index l.sum;
  value : (v : Values) → FitsKnown (known_of l.known) v → (l.sum +ℤ total_ℤ (part_value l.leaf.graph.now l.leaf.rows.now v) (drop l.number-index l.leaf.parts.now)) ≡ total_ℤ (part_value l.leaf.graph.now l.leaf.rows.now v) l.leaf.parts.now;
}
