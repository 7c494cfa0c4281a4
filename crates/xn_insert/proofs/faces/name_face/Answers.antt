use Rattle.std.proofs.Common.{◌≡◌, suc, ◌*◌, ◌<◌, length, set, sym, ◌∙◌, ap, subst, arith}
use Rattle.xn_model.specs.Graph.{Graph}
use Rattle.xn_model.specs.Lists.{at}
use Rattle.xn_model.proofs.Darts.{reverse_below}
use Rattle.xn_insert.proofs.FaceWalks.{IsNamed, fewer_left, named_begun, named_done, named_more}
use Rattle.xn_insert.proofs.faces.name_face.Goals as goal

pub loop-names-init : goal.loop-names-init
loop-names-init c =
    (0, named_begun c.args.map.now c.web.ensures.is_map c.args.d c.requires.dart c.args.names.now c.requires.closed c.requires.fresh)

pub bounds-names-e : goal.bounds-names-e
bounds-names-e c = let now = c.loop-names.invariant.1 in omega (arith, now.dart, now.size)

pub next-e-requires : goal.next-e-requires
next-e-requires c =
    let m = c.args.map.now in
    let fits = c.web.ensures.is_map.fits in
    let now = c.loop-names.invariant.1 in
    let low = reverse_below (length m.web.ends) c.loop-names.e (omega (arith, now.dart, fits)) in
    omega (arith, low, fits)

pub loop-names-preserved : goal.loop-names-preserved
loop-names-preserved c =
    let m = c.args.map.now in
    let d = c.args.d in
    let old = c.args.names.now in
    let names = c.loop-names.names in
    let e = c.loop-names.e in
    let k = c.loop-names.invariant.0 in
    let more = named_more m c.web.ensures.is_map d c.requires.dart old c.requires.closed c.requires.fresh k e names c.loop-names.invariant.1 in
    (suc k, subst (λ x. IsNamed m d old (suc k) x (set names e d)) (sym c.next-e.ensures.value) more)

pub loop-names-smaller : goal.loop-names-smaller
loop-names-smaller c =
    let m = c.args.map.now in
    let is = c.web.ensures.is_map in
    let now = c.loop-names.invariant.1 in
    let ends = ap (λ (w : Graph). length w.ends) c.web.ensures.value in
    let e_in : c.loop-names.e < length c.loop-names.names = let low = now.dart in let size = now.size in omega (arith, low, size) in
    let new : at c.loop-names.names c.loop-names.e ≡ length m.next = omega (arith, c.loop-names-test.true, c.segments-darts.ensures.value, ends, is.fits) in
    fewer_left m is c.args.d c.requires.dart c.args.names.now c.requires.closed c.requires.fresh c.loop-names.names c.loop-names.e e_in new

pub returns : goal.returns
returns c =
    let m = c.args.map.now in
    let is = c.web.ensures.is_map in
    let ends = ap (λ (w : Graph). length w.ends) c.web.ensures.value in
    let darts : 2 * c.segments-darts.result ≡ length m.next = omega (arith, c.segments-darts.ensures.value, ends, is.fits) in
    let now = c.loop-names.invariant in
    named_done m is c.args.d c.requires.dart c.args.names.now c.requires.closed c.requires.fresh now.0 c.loop-names.e c.loop-names.names now.1
    (λ new. c.loop-names-test.false (new ∙ sym darts))
