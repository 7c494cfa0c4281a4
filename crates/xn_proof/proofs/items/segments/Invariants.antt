use Rattle.std.proofs.Common.{◌≡◌, ◌+◌, drop, length}
use Rattle.xn_list.specs.Lists.{lists_of}
use Rattle.xn_model.specs.Lists.{total}
use Rattle.xn_proof.proofs.items.segments.Given as goal

-- what is counted and what is left are all
abbrev pub invariant-loop-list : goal.invariant-loop-list
invariant-loop-list l = l.count + total length (lists_of (drop l.list-index l.lists)) ≡ l.edges + total length (lists_of l.lists)
