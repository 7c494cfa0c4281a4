use Rattle.std.proofs.Common.{◌≡◌, ◌+◌, ◌*◌, ◌≤◌, ◌^◌, drop}
use Rattle.xn_tree.specs.Leaf.{pair_weight}
use Rattle.xn_tree.proofs.crossings.pair_weights.Given as goal

abbrev pub invariant-loop-number : goal.invariant-loop-number
invariant-loop-number l = record {
  small_zero : l.zero ≤ l.number-index * 2 ^ 64;
  small_one : l.one ≤ l.number-index * 2 ^ 64;
  zero : l.zero + pair_weight l.leaf.rows.now (drop l.number-index l.leaf.parts.now) l.e l.f 0 ≡ pair_weight l.leaf.rows.now l.leaf.parts.now l.e l.f 0;
  one : l.one + pair_weight l.leaf.rows.now (drop l.number-index l.leaf.parts.now) l.e l.f 1 ≡ pair_weight l.leaf.rows.now l.leaf.parts.now l.e l.f 1;
}
