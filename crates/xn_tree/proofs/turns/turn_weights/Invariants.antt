use Rattle.std.proofs.Common.{◌≡◌, ◌*◌, ◌≤◌, ◌^◌, take}
use Rattle.xn_tree.specs.Leaf.{turn_weight}
use Rattle.xn_tree.proofs.turns.turn_weights.Given as goal

abbrev pub invariant-loop-i : goal.invariant-loop-i
invariant-loop-i l = record {
  small_zero : l.zero ≤ l.i * 2 ^ 64;
  small_one : l.one ≤ l.i * 2 ^ 64;
  zero : l.zero ≡ turn_weight l.leaf.rows.now (take l.i l.leaf.parts.now) l.e l.f l.g 0;
  one : l.one ≡ turn_weight l.leaf.rows.now (take l.i l.leaf.parts.now) l.e l.f l.g 1;
}
