use Rattle.std.proofs.Common.{arith}
use Rattle.xn_track.proofs.Passes.{walk_in}
use Rattle.xn_insert.proofs.judging.first_astray.Goals as goal

pub passes_further-requires : goal.passes_further-requires
passes_further-requires c = λ i i_in.
    let low = walk_in c.args.map.now.web.ends _ _ c.at-walk.result.now (c.leads_to.ensures.0 c.if-not-leads_to.false) i i_in in
    omega (arith, low, c.web-web.ensures.is_map.fits)
