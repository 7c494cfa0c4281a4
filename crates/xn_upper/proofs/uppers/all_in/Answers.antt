use Rattle.std.proofs.Common.{◌≡◌, ◌+◌, ◌<◌, ℕ, length, get_or, refl, sym, subst, arith}
use Rattle.xn_insert.specs.ListedLoose.{ListedLoose, walk_of}
use Rattle.xn_upper.proofs.Whole.{AreIn, all_there, is_in, is_out, one_more, one_there, ordered_below}
use Rattle.xn_upper.proofs.uppers.all_in.Goals.{then-segments_along-eq0+in_ok-loose-2, else-segments_along-eq0}
use Rattle.xn_upper.proofs.uppers.all_in.Goals as goal

pub segments_along-requires : goal.segments_along-requires
segments_along-requires c =
    let low = ordered_below c.args.graph.now c.args.order.now c.requires c.loop-e.e-index c.loop-e-test.true in
    omega (arith, low, c.loop-e.invariant.loose.lists)

pub with_edge-requires-clause-edge : goal.with_edge-requires-clause-edge
with_edge-requires-clause-edge c = ordered_below c.args.graph.now c.args.order.now c.requires c.loop-e.e-index c.loop-e-test.true

pub with_edge-requires-clause-new : goal.with_edge-requires-clause-new
with_edge-requires-clause-new c =
    is_out c.loop-e.loose (get_or c.args.order.now c.loop-e.e-index 0) (omega (arith, c.segments_along.ensures, c.if-segments_along-eq0.true))

pub loop-e-preserved : goal.loop-e-preserved
loop-e-preserved c =
    let g = c.args.graph.now in
    let order = c.args.order.now in
    let i = c.loop-e.e-index in
    let e = get_or order i 0 in
    let l = c.loop-e.loose in
    let so_far = c.loop-e.invariant in
    let P : ListedLoose → Type 0 = AreIn g order (i + 1) in
    elim c.if-segments_along-eq0.branch [
      | then-segments_along-eq0+in_ok-loose-2 w ↦
          subst P (sym w.loose-is) (one_more g order i e l w.in_ok-loose-2.loose c.loop-e-test.true refl so_far w.in_ok-loose-2.ensures)
      | else-segments_along-eq0 w ↦
          let low = ordered_below g order c.requires i c.loop-e-test.true in
          let low_in : e < length l.walks = omega (arith, low, so_far.loose.lists) in
          let some : 0 < length (walk_of l.walks e) = omega (arith, c.segments_along.ensures, w.if-segments_along-eq0.false) in
          subst P (sym w.loose-is) (one_there g order i e l c.loop-e-test.true refl so_far (is_in l e low_in some))
    ]

pub returns : goal.returns
returns c =
    let g = c.args.graph.now in
    let order = c.args.order.now in
    let last : c.loop-e.e-index ≡ length order = omega (arith, c.loop-e-test.false, c.loop-e.auto.e-index-end) in
    all_there g order c.loop-e.loose c.requires (subst (λ (n : ℕ). AreIn g order n c.loop-e.loose) last c.loop-e.invariant)
