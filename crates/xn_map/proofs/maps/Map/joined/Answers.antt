use Rattle.std.proofs.Common.{◌<◌, ap, arith}
use Rattle.xn_map.proofs.JoinedNodes.{joined_by_labels}
use Rattle.xn_map.proofs.maps.Map.joined.Goals as goal

pub returns : goal.returns
returns c =
    let web = c.self.inside.web in
    let nodes = ap (λ m. m.web.nodes) c.self.view_is in
    let u_in : c.args.u < web.nodes = omega (arith, c.requires.u_in, nodes) in
    let v_in : c.args.v < web.nodes = omega (arith, c.requires.v_in, nodes) in
    rw (← c.self.view_is)
    (joined_by_labels web.nodes web.ends c.args.u c.args.v c.self.invariant.is_map.ends_in u_in v_in c.in_one_component.result (rw c.web.ensures at c.in_one_component.ensures))
