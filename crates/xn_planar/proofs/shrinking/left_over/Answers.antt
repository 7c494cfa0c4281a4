use Rattle.std.proofs.Common.{◌≡◌, subst, arith}
use Rattle.xn_planar.specs.Leaving.{AreLeft}
use Rattle.xn_planar.proofs.Dropped.{core_left, left_first}
use Rattle.xn_planar.proofs.shrinking.left_over.Goals as goal

pub loop-front-init : goal.loop-front-init
loop-front-init c =
    left_first c.args.web.now c.segments-front.result c.new-kept.result.items c.segments-front.ensures.value c.new-kept.ensures.items c.requires.none

pub returns : goal.returns
returns c =
    let web = c.args.web.now in
    let kept = c.loop-front.kept.items in
    let none : c.loop-front.front ≡ 0 = omega (arith, c.loop-front-test.false) in
    let left = subst (λ s. AreLeft web s kept) none c.loop-front.invariant in
    core_left web kept left c.segments-front.ensures.limited.ends_in c.requires.no_loop c.flat_webs.ensures.some
