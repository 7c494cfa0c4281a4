use Rattle.std.proofs.Common.{◌≡◌, ◌+◌, ◌-◌, ◌<◌, length, sym, ◌∙◌, ap, subst, arith}
use Rattle.std.proofs.lemmas.List.{get_or_read}
use Rattle.xn_model.specs.Lists.{at}
use Rattle.xn_blocks.specs.Growth.{lists_in}
use Rattle.xn_blocks.specs.Lows.{AreHandedUp, lowered}
use Rattle.xn_blocks.proofs.LowPoints.{handed_at_first, handed_more}
use Rattle.xn_blocks.proofs.classes.hand_up.Goals as goal

pub loop-k-init : goal.loop-k-init
loop-k-init c = handed_at_first (lists_in c.args.forest.now) c.requires.whole c.args.low.now c.requires.size

pub loop-k-preserved : goal.loop-k-preserved
loop-k-preserved c =
    let s = lists_in c.args.forest.now in
    let k = c.loop-k.k in
    let low = c.loop-k.low in
    let i = c.len-nodes.result - 1 - k in
    let v = c.index.result.now in
    let place : i + 1 + k ≡ length s.order = omega (arith, c.len-nodes.ensures, c.args.forest.now.order.ok.0, c.loop-k-test.true) in
    let v_is : v ≡ at s.order i = get_or_read s.order i _ (omega (arith, place)) c.index.ensures 0 in
    let v_in : v < length s.parent = omega (arith, v_is, (c.requires.whole.1.found.placed i (omega (arith, place))).0, c.requires.whole.1.found.parents) in
    let p_is : c.index-in-loop-k.result.now ≡ at s.parent v = get_or_read s.parent v _ v_in c.index-in-loop-k.ensures 0 in
    let is = c.lower.ensures ∙ ap (λ p. lowered low p (at low v)) p_is ∙ ap (λ z. lowered low (at s.parent z) (at low z)) v_is in
    subst (λ l. AreHandedUp s (k + 1) c.args.low.now l) (sym is) (handed_more s c.requires.whole k i c.args.low.now low c.requires.size place c.loop-k.invariant)
