use Rattle.std.proofs.Common.{◌≡◌, ◌<◌, length, sym, ◌∙◌, ap, subst, arith}
use Rattle.xn_model.specs.Graph.{Graph}
use Rattle.xn_insert.specs.Routed.{MarkCorners}
use Rattle.xn_insert.proofs.FacesAround.{corners_more, corners_none, corners_same}
use Rattle.xn_insert.proofs.faces.mark_corners.Goals.{then-tail-v, else-tail-v}
use Rattle.xn_insert.proofs.faces.mark_corners.Goals as goal

pub loop-c-init : goal.loop-c-init
loop-c-init c =
    let m = c.args.map.now in
    let names = c.args.names.now in
    subst (MarkCorners m names c.args.v 0) (sym c.requires.none) (corners_none m names c.args.v)

pub loop-c-preserved : goal.loop-c-preserved
loop-c-preserved c =
    let m = c.args.map.now in
    let names = c.args.names.now in
    let v = c.args.v in
    let d = c.loop-c.c in
    let corners = c.loop-c.corners in
    let is = c.web.ensures.is_map in
    let ends = ap (λ (w : Graph). length w.ends) c.web.ensures.value in
    let d_in : d < length m.next = omega (arith, c.loop-c-test.true, c.segments-c-end.ensures.value, ends, is.fits) in
    let old = c.loop-c.invariant in
    elim c.if-tail-v.branch [
      | then-tail-v w ↦
          rw (w.corners-is, w.next.ensures.value)
          (corners_more m names v is c.requires.names d d_in corners old (sym c.tail.ensures.value ∙ w.if-tail-v.true))
      | else-tail-v w ↦
          rw w.corners-is (corners_same m names v is c.requires.names d d_in corners old (λ at_v. w.if-tail-v.false (c.tail.ensures.value ∙ at_v)))
    ]

pub returns : goal.returns
returns c =
    let m = c.args.map.now in
    let ends = ap (λ (w : Graph). length w.ends) c.web.ensures.value in
    let all : c.loop-c.c ≡ length m.next =
    omega (arith, c.loop-c-test.false, c.loop-c.auto.c-end, c.segments-c-end.ensures.value, ends, c.web.ensures.is_map.fits) in
    subst (λ k. MarkCorners m c.args.names.now c.args.v k c.loop-c.corners) all c.loop-c.invariant
