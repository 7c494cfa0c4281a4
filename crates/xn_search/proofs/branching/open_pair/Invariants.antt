use Rattle.std.proofs.Common.{◌<◌, ℕ, length}
use Rattle.xn_tree.specs.Given.{state_of}
use Rattle.xn_search.proofs.Asked.{Settled}
use Rattle.xn_search.proofs.branching.open_pair.Given as goal

abbrev pub invariant-loop-i : goal.invariant-loop-i
invariant-loop-i l = (a b : ℕ) → a < l.i → a < b → b < length l.edges → Settled l.graph (state_of l.given) l.edges a b
