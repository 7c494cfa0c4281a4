use Rattle.std.proofs.Common.{◌≡◌, ◌+◌, ◌*◌, ◌≤◌, drop}
use Rattle.xn_model.specs.Lists.{total}
use Rattle.xn_kinds.specs.Row.{Values, orders_of}
use Rattle.xn_brute.specs.Known.{FitsKnown, known_of}
use Rattle.xn_brute.specs.Leaf.{turns_along}
use Rattle.xn_brute.proofs.leaves.turns_value.Given as goal

abbrev pub invariant-loop-e : goal.invariant-loop-e
invariant-loop-e l = record {
  small : l.sum ≤ 1000 * l.e-index;
  value : (v : Values) → FitsKnown (known_of l.known) v → l.sum + total (λ e. turns_along v e (orders_of l.row e)) (drop l.e-index l.edges) ≡ total (λ e. turns_along v e (orders_of l.row e)) l.edges;
}
