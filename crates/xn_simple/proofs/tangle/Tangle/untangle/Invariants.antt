use Rattle.std.proofs.Common.{◌≡◌, length}
use Rattle.xn_simple.specs.Tangle.{lists_in}
use Rattle.xn_simple.proofs.Untangled.{Untangling, work}
use Rattle.xn_simple.proofs.tangle.Tangle.untangle.Given as goal

-- walks meet well but for those of the edges that are open
abbrev pub invariant-loop-e : goal.invariant-loop-e
invariant-loop-e l = record {
  untangling : Untangling l.graph (lists_in l.fn.self) (lists_in l.self) l.open.items;
  met : length l.met.items ≡ length l.graph.ends;
}

abbrev pub decreases-loop-e : goal.decreases-loop-e
decreases-loop-e l = work (lists_in l.self) l.open.items
