use Rattle.std.proofs.Common.{ℕ, subst}
use Rattle.xn_model.specs.Lists.{at}
use Rattle.xn_map.specs.Cutting.{MovesArc}
use Rattle.xn_map.proofs.Arcs.{last_behind, node_moved}
use Rattle.xn_map.proofs.maps.passing.move_node.Goals as goal

pub move_dart-requires-clause-other : goal.move_dart-requires-clause-other
move_dart-requires-clause-other c =
    let P : ℕ → Type 0 = λ b. MovesArc (at c.args.rings.now) b c.in-Some.a c.args.v c.args.web.now c.move_arc.new.web in
    last_behind c.args.web.now.nodes c.args.web.now c.move_arc.new.web (at c.args.rings.now) c.in-Some.a c.args.u c.args.v c.requires.map c.in-Some.ensures.some
    (subst P c.next.ensures.next c.move_arc.ensures)

pub returns-in-Some : goal.returns-in-Some
returns-in-Some c =
    let P : ℕ → Type 0 = λ b. MovesArc (at c.args.rings.now) b c.in-Some.a c.args.v c.args.web.now c.move_arc.new.web in
    node_moved c.args.web.now.nodes c.args.web.now c.move_arc.new.web (at c.args.rings.now) c.in-Some.a c.args.u c.args.v c.requires.map c.in-Some.ensures.some
    (subst P c.next.ensures.next c.move_arc.ensures) c.move_dart.new.self c.move_dart.ensures.moved
