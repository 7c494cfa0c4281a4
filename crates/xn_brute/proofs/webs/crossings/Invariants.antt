use Rattle.std.proofs.Common.{◌≡◌, ◌++◌, ◌*◌, ◌≤◌, drop, length}
use Rattle.std.specs.Prelude.{filter}
use Rattle.xn_model.specs.Drawing.{order_of}
use Rattle.xn_model.specs.Graph.{each_two}
use Rattle.xn_model.specs.Lists.{has}
use Rattle.xn_brute.proofs.webs.crossings.Given as goal

abbrev pub invariant-loop-i : goal.invariant-loop-i
invariant-loop-i l = record {
  few : length l.pairs.items ≤ 1000 * l.i;
  pairs : l.pairs.items ++ filter (λ p. has (order_of l.graph l.orders p.0) p.1) (each_two (drop l.i l.edges)) ≡ filter (λ p. has (order_of l.graph l.orders p.0) p.1) (each_two l.edges);
}
