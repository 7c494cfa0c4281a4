use Rattle.xn_simple.proofs.Placed.{IsNotedTo}
use Rattle.xn_simple.proofs.tangle.Notes.note.Given as goal

-- the first darts are noted, and other segments as before
abbrev pub invariant-loop-i : goal.invariant-loop-i
invariant-loop-i l = IsNotedTo l.e l.walk l.i l.fn.self.owners.items l.fn.self.places.items l.self.owners.items l.self.places.items
