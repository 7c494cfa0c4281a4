use Rattle.std.proofs.Common.{◌*◌, take}
use Rattle.std.specs.Prelude.{pos, ◌-ℤ◌}
use Rattle.xn_model.specs.Lists.{total}
use Rattle.xn_kinds.specs.Row.{orders_of}
use Rattle.xn_tree.specs.Leaf.{IsSmall, first_parts, state_in, turns_along, turns_sum}
use Rattle.xn_tree.specs.Least.{Moves}
use Rattle.xn_tree.proofs.turns.row_change.Given as goal

abbrev pub invariant-loop-i : goal.invariant-loop-i
invariant-loop-i l = record {
  small : IsSmall (l.i * 1000) l.sum;
  least : Moves (state_in l.leaf) (turns_sum l.leaf.rows.now (first_parts l.leaf l.before))
      (λ v. turns_sum l.leaf.rows.now (first_parts l.leaf l.before) v -ℤ pos (l.m * total (λ e. turns_along v e (orders_of l.row e)) (take l.i l.edges))) l.sum;
}
