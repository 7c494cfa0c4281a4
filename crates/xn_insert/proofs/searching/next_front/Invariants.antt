use Rattle.std.proofs.Common.{[]}
use Rattle.xn_insert.specs.Search.{IsRound}
use Rattle.xn_insert.proofs.searching.next_front.Given as goal

-- the faces of the front so far are passed over
abbrev pub invariant-loop-x : goal.invariant-loop-x
invariant-loop-x l = IsRound l.names l.fn.by l.front l.x-index [] 0 l.by l.next.items

-- and so are the darts of the next face so far
abbrev pub invariant-loop-d : goal.invariant-loop-d
invariant-loop-d l = IsRound l.names l.fn.by l.front l.x-index l.d-items l.d-index l.by l.next.items
