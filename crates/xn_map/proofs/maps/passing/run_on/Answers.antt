use Rattle.xn_map.proofs.Passing.{runs_on}
use Rattle.xn_map.proofs.maps.passing.run_on.Goals as goal

pub returns : goal.returns
returns c =
    runs_on c.args.p c.args.q c.args.rings.now c.take_out.new.rings c.take_place.new.rings c.requires.darts.0 c.requires.darts.1 c.requires.far c.requires.segments
    c.requires.permutes c.requires.to_second c.requires.to_first c.take_out.ensures c.take_place.ensures
