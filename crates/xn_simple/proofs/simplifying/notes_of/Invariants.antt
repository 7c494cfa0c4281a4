use Rattle.std.proofs.Common.{◌≡◌, ℕ, ◌<◌, length}
use Rattle.xn_list.specs.Lists.{lists_of}
use Rattle.xn_insert.specs.ListedLoose.{walk_of}
use Rattle.xn_simple.specs.Tangle.{HoldNotes}
use Rattle.xn_simple.proofs.simplifying.notes_of.Given as goal

-- the walks of the first edges are noted
abbrev pub invariant-loop-e : goal.invariant-loop-e
invariant-loop-e l = record {
  owners_fit : length l.notes.owners.items ≡ l.segments;
  places_fit : length l.notes.places.items ≡ l.segments;
  held : (x : ℕ) → x < l.e → HoldNotes l.notes.owners.items l.notes.places.items x (walk_of (lists_of l.lists) x);
}
