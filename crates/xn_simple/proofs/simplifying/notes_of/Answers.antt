use Rattle.std.proofs.Common.{◌∙◌, arith}
use Rattle.xn_list.specs.Lists.{lists_of}
use Rattle.xn_simple.proofs.Noted.{list_there, noted_more, walk_below, walk_once}
use Rattle.xn_simple.proofs.simplifying.notes_of.Goals as goal

pub note-requires-clause-owners : goal.note-requires-clause-owners
note-requires-clause-owners c =
    let lists = c.args.lists.now in
    let e = c.loop-e.e in
    let is = c.deref.ensures.value ∙ list_there lists e c.index-lists-e.result (omega arith) c.index-lists-e.is in
    λ i i_in. let low = walk_below c.args.segments (lists_of lists) c.requires e c.deref.result.now is i i_in in omega (arith, low, c.loop-e.invariant.owners_fit)

pub note-requires-clause-apart : goal.note-requires-clause-apart
note-requires-clause-apart c =
    let lists = c.args.lists.now in
    let e = c.loop-e.e in
    let is = c.deref.ensures.value ∙ list_there lists e c.index-lists-e.result (omega arith) c.index-lists-e.is in
    walk_once c.args.segments (lists_of lists) c.requires e c.deref.result.now is

pub loop-e-preserved : goal.loop-e-preserved
loop-e-preserved c =
    let lists = c.args.lists.now in
    let e = c.loop-e.e in
    let old = c.loop-e.invariant in
    let noted = c.note.ensures in
    let is = c.deref.ensures.value ∙ list_there lists e c.index-lists-e.result (omega arith) c.index-lists-e.is in
    record {
      owners_fit = noted.owners_fit ∙ old.owners_fit;
      places_fit = noted.places_fit ∙ old.places_fit;
      held =
          noted_more c.args.segments (lists_of lists) c.requires e c.deref.result.now c.loop-e.notes.owners.items c.loop-e.notes.places.items c.note.new.self.owners.items
          c.note.new.self.places.items is noted old.held;
    }
