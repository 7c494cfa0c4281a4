use Rattle.std.proofs.Common.{◌*◌, ◌<◌, ap, arith, length, subst, sym}
use Rattle.xn_model.specs.Graph.{Graph}
use Rattle.xn_map.specs.Anchored.{StaysBehind}
use Rattle.xn_map.proofs.Anchoring.{anchors_moved}
use Rattle.xn_map.proofs.anchored.Anchored.move_dart.Goals as goal

pub invariant_of-self : goal.invariant_of-self
invariant_of-self c =
    let web = c.self.inside.web in
    let nodes = ap (λ w. w.nodes) c.self.view_is in
    let size = ap (λ w. length w.ends) c.self.view_is in
    let d_in : c.args.d < 2 * length web.ends = omega (arith, c.requires.dart, size) in
    let v_in : c.args.v < web.nodes = omega (arith, c.requires.node, nodes) in
    let B : Graph → Type 0 = λ w. StaysBehind w.ends c.args.d c.args.v c.args.other in
    anchors_moved web c.self.inside.darts.items c.args.d c.tail-u.result c.args.v c.args.other c.move_dart.new.web c.self.invariant d_in c.tail-u.ensures.value c.tail-u.ensures.node v_in
    (subst B (sym c.self.view_is) c.requires.other) c.move_dart.ensures.moved
