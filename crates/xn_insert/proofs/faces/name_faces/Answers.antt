use Rattle.std.proofs.Common.{◌≡◌, ◌≢◌, ◌*◌, ◌<◌, inl, inr, length, sym, ◌∙◌, ap, subst, arith}
use Rattle.std.proofs.lemmas.Bool.{cases_eq}
use Rattle.xn_model.specs.Graph.{Graph}
use Rattle.xn_model.specs.Lists.{at}
use Rattle.xn_insert.specs.Routed.{AreClosed}
use Rattle.xn_insert.proofs.FaceWalks.{all_named, none_named}
use Rattle.xn_insert.proofs.faces.name_faces.Goals.{then-names-d, else-names-d}
use Rattle.xn_insert.proofs.faces.name_faces.Goals as goal

pub loop-d-init : goal.loop-d-init
loop-d-init c = record {
  closed = subst (AreClosed c.args.map.now) (sym c.requires) (none_named c.args.map.now c.web.ensures.is_map);
  named = λ x low. absurd (omega (arith, low));
}

pub name_face-requires-clause-fresh : goal.name_face-requires-clause-fresh
name_face-requires-clause-fresh c =
    let ends = ap (λ (w : Graph). length w.ends) c.web.ensures.value in
    omega (arith, c.if-names-d.true, c.segments-darts.ensures.value, ends, c.web.ensures.is_map.fits)

pub loop-d-preserved : goal.loop-d-preserved
loop-d-preserved c =
    let m = c.args.map.now in
    let d = c.loop-d.d in
    let names = c.loop-d.names in
    let old = c.loop-d.invariant in
    let ends = ap (λ (w : Graph). length w.ends) c.web.ensures.value in
    let darts : 2 * c.segments-darts.result ≡ length m.next = omega (arith, c.segments-darts.ensures.value, ends, c.web.ensures.is_map.fits) in
    let d_in : d < length m.next = omega (arith, c.loop-d-test.true, darts) in
    elim c.if-names-d.branch [
      | then-names-d w ↦
          let done = w.name_face.ensures in
          rw w.names-is (record {
            closed = done.closed;
            named = λ x low. elim (cases_eq x d) [
              | inl here ↦ subst (λ y. at w.name_face.new.names y < length m.next) (sym here) done.named
              | inr other ↦ done.kept x (omega (arith, low, d_in)) (old.named x (omega (arith, low, other)))
            ];
          })
      | else-names-d w ↦
          let has_name : at names d ≢ length m.next = λ none. w.if-names-d.false (none ∙ sym darts) in
          let most = old.closed.bound d d_in in
          rw w.names-is (record {
            closed = old.closed;
            named = λ x low. elim (cases_eq x d) [
              | inl here ↦ subst (λ y. at names y < length m.next) (sym here) (omega (arith, has_name, most))
              | inr other ↦ old.named x (omega (arith, low, other))
            ];
          })
    ]

pub returns : goal.returns
returns c =
    let m = c.args.map.now in
    let is = c.web.ensures.is_map in
    let ends = ap (λ (w : Graph). length w.ends) c.web.ensures.value in
    let darts : 2 * c.segments-darts.result ≡ length m.next = omega (arith, c.segments-darts.ensures.value, ends, is.fits) in
    let old = c.loop-d.invariant in
    all_named m is c.loop-d.names old.closed (λ x x_in. old.named x (omega (arith, x_in, c.loop-d-test.false, darts)))
