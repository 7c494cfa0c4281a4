use Rattle.std.proofs.Common.{◌+◌}
use Rattle.std.specs.Prelude.{◌+ℤ◌, ℤ}
use Rattle.xn_kinds.specs.Row.{Values}
use Rattle.xn_tree.specs.Leaf.{IgnoresPairs, IsSmall, crosses_with, state_in}
use Rattle.xn_tree.specs.Least.{Moves}
use Rattle.xn_tree.proofs.crossings.partners_least.Given as goal

abbrev pub invariant-loop-f : goal.invariant-loop-f
invariant-loop-f l = record {
  small : IsSmall l.f l.sum;
  least : (rest : Values → ℤ) → IgnoresPairs l.e rest →
      Moves (state_in l.leaf) (λ v. crosses_with l.leaf.graph.now l.leaf.rows.now l.leaf.parts.now l.leaf.d l.e l.f v +ℤ rest v)
      (λ v. crosses_with l.leaf.graph.now l.leaf.rows.now l.leaf.parts.now l.leaf.d l.e (l.e + 1) v +ℤ rest v) l.sum;
}
