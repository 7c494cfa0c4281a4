use Rattle.std.proofs.Common.{◌≡◌, ◌+◌, ◌≤◌, drop}
use Rattle.xn_model.specs.Lists.{total}
use Rattle.xn_kinds.specs.Row.{Values}
use Rattle.xn_brute.specs.Known.{FitsKnown, known_of}
use Rattle.xn_brute.proofs.leaves.crossings_in.Given as goal

abbrev pub invariant-loop-e : goal.invariant-loop-e
invariant-loop-e l = record {
  small : l.sum ≤ l.e-index;
  value : (v : Values) → FitsKnown (known_of l.known) v → l.sum + total (λ p. v.crosses p.0 p.1) (drop l.e-index l.pairs) ≡ total (λ p. v.crosses p.0 p.1) l.pairs;
}
