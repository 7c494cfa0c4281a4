use Rattle.std.proofs.Common.{Err, ap}
use Rattle.xn_model.specs.Lists.{at}
use Rattle.xn_map.proofs.Rotations.{flaws_are_no_maps}
use Rattle.xn_simple.proofs.taking_out.map_turned.Goals as goal

pub unreachable-requires-in-Err-Rotation : goal.unreachable-requires-in-Err-Rotation
unreachable-requires-in-Err-Rotation c =
    let web = c.args.web in
    let d = c.in-Err-Rotation.field-0-0 in
    let flaw = (c.in-Err-Rotation.ensures.rotation d (ap (λ e. Err e) c.in-Err-Rotation.field-0-is)).1 in
    flaws_are_no_maps web.nodes web.ends (at c.args.next.now) d flaw c.requires.is_map
