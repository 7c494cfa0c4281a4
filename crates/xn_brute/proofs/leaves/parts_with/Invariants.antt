use Rattle.std.proofs.Common.{◌≡◌, ◌+◌, ◌≤◌, drop}
use Rattle.xn_model.specs.Lists.{total}
use Rattle.xn_kinds.specs.Row.{Values}
use Rattle.xn_brute.specs.Known.{FitsKnown, known_of}
use Rattle.xn_brute.specs.Leaf.{independent_part}
use Rattle.xn_brute.proofs.leaves.parts_with.Given as goal

abbrev pub invariant-loop-f : goal.invariant-loop-f
invariant-loop-f l = record {
  small : l.sum ≤ l.f-index;
  value : (v : Values) → FitsKnown (known_of l.known) v → l.sum + total (independent_part l.graph l.row v l.e) (drop l.f-index l.edges) ≡ total (independent_part l.graph l.row v l.e) l.edges;
}
