use Rattle.std.proofs.Common.{◌<◌, ◌++◌, length, sym, ap, ◌∙◌, arith}
use Rattle.xn_model.specs.Lists.{at}
use Rattle.xn_orders.proofs.Listed.{flat_map-take_more}
use Rattle.xn_insert.specs.Cuts.{cut_one}
use Rattle.xn_insert.proofs.growing.cut_walk.Goals as goal

pub loop-d-preserved : goal.loop-d-preserved
loop-d-preserved c =
    let cuts = c.args.cuts.now in
    let walk = c.args.walk.now in
    let i = c.loop-d.d-index in
    let low : i < length walk = omega arith in
    c.in_ok-push_cut.ensures ∙ ap (λ l. l ++ cut_one cuts (at walk i)) c.loop-d.invariant ∙ sym (flat_map-take_more (cut_one cuts) walk i 0 low)
