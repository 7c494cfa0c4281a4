use Rattle.std.proofs.Common.{◌≡◌, ◌+◌, ◌<◌, length, set, sym, subst, arith}
use Rattle.std.proofs.lemmas.List.{get_or_read}
use Rattle.xn_model.specs.Lists.{at}
use Rattle.xn_blocks.specs.Growth.{lists_in}
use Rattle.xn_blocks.specs.Lows.{AreClassed, IsClassAt}
use Rattle.xn_blocks.proofs.LowPoints.{classed_more}
use Rattle.xn_blocks.proofs.classes.put_classes.Goals as goal

pub loop-i-preserved : goal.loop-i-preserved
loop-i-preserved c =
    let s = lists_in c.args.forest.now in
    let low = c.args.low.now in
    let class = c.loop-i.class in
    let i = c.loop-i.i in
    let k = c.class_at-own.result in
    let i_in : i < length s.order = omega (arith, c.len-i-end.ensures, c.args.forest.now.order.ok.0, c.loop-i-test.true) in
    let v_is : c.index-v.result.now ≡ at s.order i = get_or_read s.order i _ i_in c.index-v.ensures 0 in
    subst (λ v. AreClassed s low (i + 1) (set class v k)) (sym v_is)
    (classed_more s c.requires.whole low class i k i_in c.loop-i.invariant (subst (λ v. IsClassAt s low class v k) v_is c.class_at-own.ensures))
