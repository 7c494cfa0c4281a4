use Rattle.std.proofs.Common.{length, sym, subst}
use Rattle.std.proofs.lemmas.Result.{IfOk-weaker}
use Rattle.xn_blocks.specs.Growth.{lists_in}
use Rattle.xn_blocks.specs.Lows.{AreAllClassed, AreLowPoints, HaveClasses}
use Rattle.xn_blocks.proofs.LowPoints.{keys_name}
use Rattle.xn_blocks.proofs.classes.keys_of.Goals as goal

pub returns : goal.returns
returns c =
    let web = c.args.web.now in
    let s = lists_in c.in_ok-forest.forest in
    let whole = c.in_ok-forest.ensures in
    let low = c.as_slice.result.now in
    let class = c.as_slice-3.result.now in
    let lows = subst (λ l. AreLowPoints web s l) (sym c.as_slice.ensures.value) c.in_ok-low.ensures in
    let classed = subst (λ l. AreAllClassed s low l) (sym c.as_slice-3.ensures.value) c.in_ok-class.ensures in
    IfOk-weaker c.segment_classes.result _ _ (λ keys have. keys_name web s whole.ends_in c.requires.no_loop whole low class keys.items lows classed
    (subst (λ l. HaveClasses web l class (length web.ends) keys.items) c.as_slice-2.ensures.value have)) c.segment_classes.ensures
