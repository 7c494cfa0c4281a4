use Rattle.std.proofs.Common.{◌*◌, take}
use Rattle.xn_kinds.specs.Bound.{IsLeastOver}
use Rattle.xn_kinds.specs.State.{InBox}
use Rattle.xn_tree.specs.Leaf.{IsSmall, state_in, turns_sum}
use Rattle.xn_tree.proofs.turns.turns_least.Given as goal

abbrev pub invariant-loop-i : goal.invariant-loop-i
invariant-loop-i l = record {
  small : IsSmall (l.i * 1000001) l.sum;
  least : IsLeastOver (InBox (state_in l.leaf)) (turns_sum l.leaf.rows.now (take l.i l.leaf.parts.now)) l.sum;
}
