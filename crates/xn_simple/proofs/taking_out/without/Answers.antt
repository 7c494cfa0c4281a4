use Rattle.std.proofs.Common.{◌<◌, length, sym, subst, arith}
use Rattle.std.proofs.lemmas.List.{length-map}
use Rattle.std.specs.Prelude.{vec_items}
use Rattle.xn_simple.specs.Tangle.{IsTangle, lists_in}
use Rattle.xn_simple.proofs.LaidOut.{without_as}
use Rattle.xn_simple.proofs.Simplified.{loose_parts}
use Rattle.xn_simple.proofs.TakenOut.{tangle_left}
use Rattle.xn_simple.proofs.taking_out.without.Goals as goal

pub tangle_of-requires : goal.tangle_of-requires
tangle_of-requires c = loose_parts c.args.graph.now c.args.loose c.into_parts-map.result.0 c.into_parts-map.result.1 c.requires.loose c.into_parts-map.ensures.map c.into_parts-map.ensures.walks

pub take_out-requires : goal.take_out-requires
take_out-requires c =
    let size = length-map c.in_ok-tangle.tangle.walks.items vec_items in
    omega (arith, size, c.in_ok-tangle.ensures.tangle.lists, c.requires.edge)

pub laid-requires : goal.laid-requires
laid-requires c =
    let g = c.args.graph.now in
    let t = lists_in c.in_ok-tangle.tangle in
    let is = c.in_ok-tangle.ensures.tangle in
    let low : c.args.e < length t.walks = omega (arith, is.lists, c.requires.edge) in
    subst (IsTangle g) (sym c.in_ok-fewer.ensures) (tangle_left g t c.args.e is low)

pub returns : goal.returns
returns c =
    without_as c.args.graph.now c.args.loose c.into_parts-map.result.0 c.into_parts-map.result.1 c.into_parts-map.ensures.map c.into_parts-map.ensures.walks (lists_in c.in_ok-tangle.tangle) c.in_ok-tangle.ensures
    c.in_ok-rest.rest c.args.e (lists_in c.in_ok-fewer.fewer) c.in_ok-fewer.ensures c.in_ok-rest.ensures
