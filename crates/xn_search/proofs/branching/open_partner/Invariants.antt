use Rattle.std.proofs.Common.{◌<◌, ℕ}
use Rattle.xn_tree.specs.Given.{state_of}
use Rattle.xn_search.proofs.Asked.{Settled}
use Rattle.xn_search.proofs.branching.open_partner.Given as goal

abbrev pub invariant-loop-j : goal.invariant-loop-j
invariant-loop-j l = record {
  from : l.fn.i < l.j;
  none : (b : ℕ) → l.fn.i < b → b < l.j → Settled l.graph (state_of l.given) l.edges l.fn.i b;
}
