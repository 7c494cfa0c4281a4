use Rattle.std.proofs.Common.{◌≡◌, ℕ, ◌+◌, ◌<◌, ◌++◌, length, take, drop, sym, ◌∙◌, ap, subst, arith}
use Rattle.std.proofs.Math.Seq.{take-append_seam}
use Rattle.xn_model.specs.Lists.{at}
use Rattle.xn_insert.specs.Judged.{AreBends, MarksBends}
use Rattle.xn_insert.proofs.JudgedSteps.{bends_of_one, walk_low}
use Rattle.xn_insert.proofs.judging.bent_nodes.Goals as goal

pub mark_bends-requires-clause-darts : goal.mark_bends-requires-clause-darts
mark_bends-requires-clause-darts c =
    let m = c.args.map.now in
    subst (λ w. (i : ℕ) → i < length w → at w i < length m.next) (sym c.at.ensures)
    (λ i i_in. let low = walk_low c.args.graph.now m c.args.walks.now c.requires c.loop-e.e i i_in in omega (arith, low, c.web.ensures.is_map.fits))

pub loop-e-preserved : goal.loop-e-preserved
loop-e-preserved c =
    let m = c.args.map.now in
    let walks = c.args.walks.now in
    let e = c.loop-e.e in
    let walk = c.at.result.now in
    let old = c.loop-e.bends.items in
    let new = c.mark_bends.new.bends in
    let marks : MarksBends m walk (length walk) old new = subst (λ bs. MarksBends m walk (length walk) bs new) c.as_mut_slice.ensures.value c.mark_bends.ensures in
    let long : c.loop-e.bends.len ≡ length new = omega (arith, c.loop-e.bends.ok.0, c.loop-e.invariant.long, marks.long) in
    let whole : take c.loop-e.bends.len (new ++ drop (length new) old) ≡ new = ap (λ n. take n (new ++ drop (length new) old)) long ∙ take-append_seam new (drop (length new) old) in
    subst (AreBends m walks (e + 1)) (sym whole) (bends_of_one m walks e walk old new c.at.ensures c.loop-e.invariant marks)
