use Rattle.std.proofs.Common.{ℕ, ◌+◌, ◌*◌, ◌-◌, ◌<◌, length}
use Rattle.xn_brute.proofs.Tries.{GoesOn}
use Rattle.xn_brute.proofs.searches.+orders.Given as goal

abbrev pub decreases-list_from : goal.decreases-list_from
decreases-list_from l = 2 * (length l.search.now.edges.now - length l.lists.now + l.left)

abbrev pub decreases-lists_from : goal.decreases-lists_from
decreases-lists_from l = 2 * (length l.search.now.edges.now - length l.lists.now + l.left) + 1

-- the list goes on with no edge before this one
abbrev pub invariant-list_from-loop-f : goal.invariant-list_from-loop-f
invariant-list_from-loop-f l = (f : ℕ) → f < l.f → GoesOn l.search.graph.now l.search.most l.left l.lists l.list f → ⊥
