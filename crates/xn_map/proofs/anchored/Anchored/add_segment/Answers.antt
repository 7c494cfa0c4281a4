use Rattle.std.proofs.Common.{◌<◌, ap, arith}
use Rattle.xn_map.proofs.Anchoring.{anchors_longer}
use Rattle.xn_map.proofs.anchored.Anchored.add_segment.Goals as goal

pub invariant_of-self-2 : goal.invariant_of-self-2
invariant_of-self-2 c =
    let nodes = ap (λ w. w.nodes) c.self.view_is in
    let u_in : c.args.u < c.self.inside.web.nodes = omega (arith, c.requires.nodes.0, nodes) in
    let v_in : c.args.v < c.self.inside.web.nodes = omega (arith, c.requires.nodes.1, nodes) in
    anchors_longer c.self.inside.web c.self.inside.darts.items c.segments-s.result c.args.u c.args.v c.add_segment.new.self c.self.invariant c.segments-s.ensures.value u_in v_in
    c.in_ok-add_segment.ensures.ok
