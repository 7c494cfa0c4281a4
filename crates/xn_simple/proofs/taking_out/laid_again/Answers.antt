use Rattle.xn_simple.specs.Tangle.{lists_in}
use Rattle.xn_simple.proofs.LaidOut.{again_as}
use Rattle.xn_simple.proofs.Simplified.{loose_parts}
use Rattle.xn_simple.proofs.taking_out.laid_again.Goals as goal

pub tangle_of-requires : goal.tangle_of-requires
tangle_of-requires c = loose_parts c.args.graph.now c.args.loose c.into_parts-map.result.0 c.into_parts-map.result.1 c.requires c.into_parts-map.ensures.map c.into_parts-map.ensures.walks

pub returns : goal.returns
returns c =
    again_as c.args.graph.now c.args.loose c.into_parts-map.result.0 c.into_parts-map.result.1 c.into_parts-map.ensures.map c.into_parts-map.ensures.walks (lists_in c.in_ok-tangle.tangle) c.in_ok-tangle.ensures
    c.in_ok-again.again c.in_ok-again.ensures
