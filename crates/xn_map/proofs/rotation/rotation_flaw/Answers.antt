use Rattle.std.proofs.Common.{length, rules}
use Rattle.xn_model.specs.Lists.{at}
use Rattle.xn_map.specs.Rotation.{LeadsRight}
use Rattle.xn_map.proofs.Rotations.{flaw_or_map}
use Rattle.xn_map.proofs.rotation.rotation_flaw.Goals as goal

pub returns : goal.returns
returns c =
    let ends = c.args.web.now.ends in
    let next = at c.args.next.now in
    let right : LeadsRight ends next = search rules in
    flaw_or_map c.args.web.now.nodes ends next (length c.args.next.now) c.first_apart.result c.requires c.nodes.ensures.limited.ends_in right c.first_apart.ensures
