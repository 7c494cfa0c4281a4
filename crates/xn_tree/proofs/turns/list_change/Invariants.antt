use Rattle.std.proofs.Common.{◌-◌, ◌*◌, ◌+◌, ◌≤◌, length, take}
use Rattle.std.specs.Prelude.{ℤ, pos, ◌-ℤ◌}
use Rattle.xn_kinds.specs.Row.{Values}
use Rattle.xn_tree.specs.Leaf.{AllWeigh, IsSmall, first_parts, state_in, turns_along}
use Rattle.xn_tree.specs.Least.{Moves}
use Rattle.xn_tree.proofs.turns.list_change.Given as goal

abbrev pub invariant-loop-i : goal.invariant-loop-i
invariant-loop-i l = record {
  within : l.i ≤ length l.list + 1;
  small : IsSmall (l.i - 1) l.sum;
  least : (number : Values → ℤ) → AllWeigh (state_in l.leaf) l.leaf.rows.now (first_parts l.leaf l.before) l.e number →
      Moves (state_in l.leaf) number (λ v. number v -ℤ pos (l.m * turns_along v l.e (take l.i l.list))) l.sum;
}
