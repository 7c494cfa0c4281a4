use Rattle.std.proofs.Common.{◌≡◌, ◌++◌, ◌+◌, ◌≤◌, drop, length}
use Rattle.std.specs.Prelude.{filter, map}
use Rattle.xn_model.specs.Lists.{has}
use Rattle.xn_brute.proofs.webs.push_crossings.Given as goal

abbrev pub invariant-loop-f : goal.invariant-loop-f
invariant-loop-f l = record {
  few : length l.pairs.items ≤ length l.initial.pairs.items + l.f-index;
  pairs : l.pairs.items ++ filter (λ p. has l.list p.1) (map (λ f. (l.e, f)) (drop l.f-index l.edges)) ≡ l.initial.pairs.items ++ filter (λ p. has l.list p.1) (map (λ f. (l.e, f)) l.edges);
}
