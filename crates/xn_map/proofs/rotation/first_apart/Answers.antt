use Rattle.std.proofs.Common.{◌<◌, ◌*◌, ◌+◌, ◌∙◌, ℕ, Bool, List, length, ap, subst, sym, arith}
use Rattle.xn_model.specs.Lists.{at}
use Rattle.xn_model.specs.Map.{tail_of}
use Rattle.xn_map.specs.Marks.{IsClosed, MarksCycle, is_marked}
use Rattle.xn_map.proofs.Marking.{IsClosed-from_below}
use Rattle.xn_map.proofs.Rotations.{IsFirst-apart, Permutes-from_right, Together, Together-first, Together-met, fresh_dart}
use Rattle.xn_map.proofs.rotation.first_apart.Goals as goal
use Rattle.xn_map.proofs.rotation.first_apart.Goals.{then-not-begun-node, else-not-begun-node+else-not-met-d}

pub mark_ring-requires-clause-fresh : goal.mark_ring-requires-clause-fresh
mark_ring-requires-clause-fresh c =
    let ends = c.args.web.now.ends in
    let d = c.loop-d.d in
    let begun = c.loop-d.begun in
    let old = c.loop-d.invariant in
    let node = c.tail-node.ensures.value in
    let d_in : d < 2 * length ends = omega (arith, c.loop-d-test.true, c.segments-d-end.ensures.value) in
    let node_in : tail_of ends d < length begun = omega (arith, node, c.tail-node.ensures.node, old.begun_length) in
    fresh_dart ends (at c.args.next.now) c.requires.right d d_in begun c.loop-d.met old.together node_in
    (ap (is_marked begun) (sym node) ∙ c.if-not-begun-node.true)

pub mark_ring-requires-clause-closed : goal.mark_ring-requires-clause-closed
mark_ring-requires-clause-closed c =
    let ends = c.args.web.now.ends in
    let next = at c.args.next.now in
    let P : ℕ → Type 0 = λ n. IsClosed n next c.loop-d.met in
    subst P (sym c.requires.darts)
    (IsClosed-from_below (2 * length ends) next (Permutes-from_right ends next c.requires.right) c.loop-d.d c.loop-d.met c.loop-d.invariant.together.darts)

pub returns-then-not-met-d : goal.returns-then-not-met-d
returns-then-not-met-d c =
    let ends = c.args.web.now.ends in
    let d = c.loop-d.d in
    let begun = c.loop-d.begun in
    let old = c.loop-d.invariant in
    let node = c.tail-node.ensures.value in
    let d_in : d < 2 * length ends = omega (arith, c.loop-d-test.true, c.segments-d-end.ensures.value) in
    let node_in : tail_of ends d < length begun = omega (arith, node, c.tail-node.ensures.node, old.begun_length) in (
      omega (arith, d_in, c.requires.darts),
      IsFirst-apart ends (at c.args.next.now) c.requires.right d d_in begun c.loop-d.met old.together node_in
          (ap (is_marked begun) (sym node) ∙ c.if-not-begun-node.false) c.if-not-met-d.true,
    )

pub loop-d-preserved : goal.loop-d-preserved
loop-d-preserved c =
    let ends = c.args.web.now.ends in
    let next = at c.args.next.now in
    let d = c.loop-d.d in
    let begun = c.loop-d.begun in
    let met = c.loop-d.met in
    let old = c.loop-d.invariant in
    let node = c.tail-node.ensures.value in
    let d_in : d < 2 * length ends = omega (arith, c.loop-d-test.true, c.segments-d-end.ensures.value) in
    let node_in : tail_of ends d < length begun = omega (arith, node, c.tail-node.ensures.node, old.begun_length) in
    let P : List Bool → List Bool → Type 0 = λ new_begun new_met. Together ends next (d + 1) new_begun new_met in
    let together : P c.if-not-begun-node.begun c.if-not-begun-node.met = elim c.if-not-begun-node.branch [
      | then-not-begun-node w ↦
          let Q : ℕ → Type 0 = λ n. MarksCycle n next d met w.mark_ring.new.marks in
          let marked = subst Q c.requires.darts w.mark_ring.ensures in
          let first = Together-first ends next c.requires.right d d_in begun met old.together node_in w.mark_ring.new.marks
          (ap (is_marked begun) (sym node) ∙ w.if-not-begun-node.true) marked in
          rw (w.begun-is, w.met-is, node) first
      | else-not-begun-node+else-not-met-d w ↦
          let stays = Together-met ends next c.requires.right d d_in begun met old.together node_in
          (ap (is_marked begun) (sym node) ∙ w.if-not-begun-node.false) w.if-not-met-d.false in
          rw (w.begun-is, w.met-is) stays
    ] in
    record {
      together = together;
      begun_length = c.if-not-begun-node.auto.begun ∙ old.begun_length;
      met_length = c.if-not-begun-node.auto.met ∙ old.met_length;
    }

pub returns : goal.returns
returns c = λ d d_in. c.loop-d.invariant.together.none d (omega (arith, d_in, c.loop-d-test.false, c.segments-d-end.ensures.value))
