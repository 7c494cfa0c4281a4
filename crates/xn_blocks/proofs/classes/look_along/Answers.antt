use Rattle.std.proofs.Common.{◌≡◌, ◌+◌, ◌*◌, ◌<◌, length, sym, ◌∙◌, ap, subst, arith}
use Rattle.std.proofs.lemmas.List.{get_or_read}
use Rattle.xn_model.specs.Lists.{at}
use Rattle.xn_model.specs.Map.{reverse_of, tail_of}
use Rattle.xn_blocks.specs.Growth.{lists_in}
use Rattle.xn_blocks.specs.Lows.{AreNoted, lowered}
use Rattle.xn_blocks.proofs.LowPoints.{noted_more}
use Rattle.xn_blocks.proofs.classes.look_along.Goals as goal

pub loop-d-preserved : goal.loop-d-preserved
loop-d-preserved c =
    let web = c.args.web.now in
    let s = lists_in c.args.forest.now in
    let d = c.loop-d.d in
    let low = c.loop-d.low in
    let x = c.index-number.result.now in
    let d_in : d < 2 * length web.ends = omega (arith, c.loop-d-test.true, c.segments-d-end.ensures.value) in
    let x_is : x ≡ at s.number (tail_of web.ends (reverse_of d)) =
    get_or_read s.number c.tail.result _ (omega (arith, c.tail.ensures.node, c.requires.whole.found.numbers)) c.index-number.ensures 0 ∙ ap (at s.number) c.tail.ensures.value in
    let is = c.lower.ensures ∙ ap (λ v. lowered low v x) c.tail-in-loop-d.ensures.value in
    subst (λ l. AreNoted web s (d + 1) l) (sym is) (noted_more web s c.requires.whole.ends_in d x low d_in x_is c.loop-d.invariant)
