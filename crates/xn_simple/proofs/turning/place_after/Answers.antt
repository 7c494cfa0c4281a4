use Rattle.std.proofs.Common.{sym, ◌∙◌}
use Rattle.xn_simple.proofs.Turns.{way_begins, way_ends, way_nearer, way_on}
use Rattle.xn_simple.proofs.turning.place_after.Goals as goal

pub loop-e-init : goal.loop-e-init
loop-e-init c = way_begins c.args.map.now c.requires.is_map c.args.starts.now c.args.d c.requires.dart c.next-e.result c.next-e.ensures.value c.next-e.ensures.dart

pub loop-e-preserved : goal.loop-e-preserved
loop-e-preserved c =
    way_on c.args.map.now c.requires.is_map c.args.starts.now c.args.d c.requires.dart c.loop-e.e c.next-e-in-loop-e.result c.loop-e.invariant
    (sym c.is_listed.ensures ∙ c.loop-e-test.true) c.next-e-in-loop-e.ensures.value c.next-e-in-loop-e.ensures.dart

pub loop-e-smaller : goal.loop-e-smaller
loop-e-smaller c =
    way_nearer c.args.map.now c.requires.is_map c.args.starts.now c.args.d c.requires.dart c.loop-e.e c.next-e-in-loop-e.result c.requires.listed c.loop-e.invariant
    (sym c.is_listed.ensures ∙ c.loop-e-test.true) c.next-e-in-loop-e.ensures.value

pub returns-clause-below : goal.returns-clause-below
returns-clause-below c =
    (way_ends c.args.map.now c.requires.is_map c.args.starts.now c.args.d c.requires.dart c.args.places.now c.loop-e.e c.requires.places c.loop-e.invariant
    (sym c.is_listed.ensures ∙ c.loop-e-test.false)).0

pub returns-clause-first : goal.returns-clause-first
returns-clause-first c =
    (way_ends c.args.map.now c.requires.is_map c.args.starts.now c.args.d c.requires.dart c.args.places.now c.loop-e.e c.requires.places c.loop-e.invariant
    (sym c.is_listed.ensures ∙ c.loop-e-test.false)).1
