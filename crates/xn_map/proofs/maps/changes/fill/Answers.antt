use Rattle.xn_map.proofs.Fill.{filled}
use Rattle.xn_map.proofs.maps.changes.fill.Goals as goal

pub returns : goal.returns
returns c = filled c.args.s c.args.last c.args.rings.now c.take_place.new.rings c.take_place-2.new.rings c.requires.out c.if-s-last.false c.take_place.ensures c.take_place-2.ensures
