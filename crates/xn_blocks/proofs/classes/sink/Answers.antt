use Rattle.xn_blocks.specs.Growth.{lists_in}
use Rattle.xn_blocks.proofs.LowPoints.{low_points}
use Rattle.xn_blocks.proofs.classes.sink.Goals as goal

pub returns : goal.returns
returns c =
    let whole = c.requires.whole in
    low_points c.args.web.now (lists_in c.args.forest.now) whole.ends_in whole c.look_along.new.low c.hand_up.new.low c.look_along.ensures c.hand_up.ensures
