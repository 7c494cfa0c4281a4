use Rattle.std.proofs.Common.{◌≡◌, suc, ◌+◌, ◌/◌, ◌<◌, get_or, length, set, take, min, refl, subst, arith}
use Rattle.std.proofs.lemmas.List.{get_or_default}
use Rattle.xn_model.specs.Lists.{at}
use Rattle.xn_insert.specs.Judged.{AreTimes}
use Rattle.xn_insert.proofs.JudgedSteps.{times_more}
use Rattle.xn_insert.proofs.judging.times_of.Goals as goal

pub loop-d-preserved : goal.loop-d-preserved
loop-d-preserved c =
    let darts = c.args.darts.now in
    let times = c.loop-d.times.items in
    let i = c.loop-d.d-index in
    let s = at darts i / 2 in
    let low = c.requires i c.loop-d-test.true in
    let s_in : s < length times = let size = c.loop-d.invariant.long in omega (arith, low, size) in
    let before : at times s ≡ get_or times s c.index-before.result.now = get_or_default times s 0 c.index-before.result.now s_in in
    let x : c.min.result ≡ min (at times s + 1) 2 = omega (arith, c.min.ensures, c.saturating_add.ensures, c.index-before.ensures, before) in
    let more = times_more c.args.segments darts times i s c.min.result c.loop-d-test.true c.loop-d.invariant refl (omega (arith, low)) x in
    let next : suc i ≡ i + 1 = omega arith in
    subst (λ k. AreTimes c.args.segments (take k darts) (set times s c.min.result)) next more
