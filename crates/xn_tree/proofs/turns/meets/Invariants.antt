use Rattle.std.proofs.Common.{◌≡◌, ◌+◌, ◌-◌, ◌≤◌, drop, length}
use Rattle.xn_tree.specs.Leaf.{meets}
use Rattle.xn_tree.proofs.turns.meets.Given as goal

abbrev pub invariant-loop-i : goal.invariant-loop-i
invariant-loop-i l = record {
  within : l.i ≤ length l.list + 1;
  rest : meets (drop (l.i - 1) l.list) l.f l.g ≡ meets l.list l.f l.g;
}
