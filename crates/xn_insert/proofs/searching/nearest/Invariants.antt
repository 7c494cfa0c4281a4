use Rattle.std.proofs.Common.{◌+◌, length}
use Rattle.xn_insert.specs.Search.{IsSearched, unmet}
use Rattle.xn_insert.proofs.searching.nearest.Given as goal

-- so many rounds from the goals
abbrev pub invariant-loop-x : goal.invariant-loop-x
invariant-loop-x l = IsSearched l.names l.initial.by l.starts l.by l.front.items l.rounds

abbrev pub decreases-loop-x : goal.decreases-loop-x
decreases-loop-x l = unmet (length l.names) l.by + length l.front.items
