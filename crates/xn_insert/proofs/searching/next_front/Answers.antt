use Rattle.std.proofs.Common.{◌≡◌, true, [], length, refl, sym, ◌∙◌, ap, subst, arith}
use Rattle.xn_model.specs.Lists.{at, has}
use Rattle.xn_model.specs.Map.{reverse_of}
use Rattle.xn_model.proofs.Has.{has-at}
use Rattle.xn_insert.specs.Search.{IsRound}
use Rattle.xn_insert.proofs.Rounds.{dart_met, dart_new, face_begun, face_done, round_begun}
use Rattle.xn_insert.proofs.Duals.{dual_dart, dual_place, dual_reverse}
use Rattle.xn_insert.proofs.searching.next_front.Goals.{then-by-y+in_ok-push, else-by-y}
use Rattle.xn_insert.proofs.searching.next_front.Goals as goal

pub loop-x-init : goal.loop-x-init
loop-x-init c =
    let names = c.args.names.now in
    let old = c.args.by.now in
    let front = c.args.front.now in
    subst (IsRound names old front 0 [] 0 old) (sym c.new-next.ensures.items)
    (round_begun names c.requires.below (dual_reverse names c.args.stars.now c.requires.dual) old front c.requires.marks c.requires.size)

pub at-d-items-requires : goal.at-d-items-requires
at-d-items-requires c =
    let front = c.args.front.now in
    let i = c.loop-x.x-index in
    let x_in = c.requires.front (at front i) (has-at front i c.loop-x-test.true) in
    omega (arith, x_in, c.requires.dual.nodes)

pub loop-d-init : goal.loop-d-init
loop-d-init c =
    let names = c.args.names.now in
    face_begun names c.requires.below (dual_reverse names c.args.stars.now c.requires.dual) c.args.by.now c.args.front.now c.requires.marks
    c.loop-x.x-index [] c.at-d-items.result.now c.loop-x.by c.loop-x.next.items 0 c.loop-x.invariant

pub bounds-names-d : goal.bounds-names-d
bounds-names-d c =
    let names = c.args.names.now in
    let x = at c.args.front.now c.loop-x.x-index in
    let dart = dual_dart names c.args.stars.now c.requires.dual x c.at-d-items.result.now c.at-d-items.ensures c.loop-d.d-index c.loop-d-test.true in
    dual_reverse names c.args.stars.now c.requires.dual _ dart.0

pub bounds-by-y : goal.bounds-by-y
bounds-by-y c =
    let names = c.args.names.now in
    let x = at c.args.front.now c.loop-x.x-index in
    let dart = dual_dart names c.args.stars.now c.requires.dual x c.at-d-items.result.now c.at-d-items.ensures c.loop-d.d-index c.loop-d-test.true in
    let d = at c.at-d-items.result.now c.loop-d.d-index in
    let y_in = c.requires.below (reverse_of d) (dual_reverse names c.args.stars.now c.requires.dual d dart.0) in
    let size = c.loop-d.invariant.size in
    omega (arith, y_in, size)

pub loop-d-preserved : goal.loop-d-preserved
loop-d-preserved c =
    let names = c.args.names.now in
    let front = c.args.front.now in
    let old = c.args.by.now in
    let back = dual_reverse names c.args.stars.now c.requires.dual in
    let i = c.loop-x.x-index in
    let x = at front i in
    let darts = c.at-d-items.result.now in
    let j = c.loop-d.d-index in
    let d = at darts j in
    let dart = dual_dart names c.args.stars.now c.requires.dual x darts c.at-d-items.ensures j c.loop-d-test.true in
    let in_front : has front (at names d) ≡ true = ap (has front) dart.1 ∙ has-at front i c.loop-x-test.true in
    let by = c.loop-d.by in
    let next = c.loop-d.next.items in
    elim c.if-by-y.branch [
      | then-by-y+in_ok-push w ↦
          rw (w.by-is, w.next-is, w.in_ok-push.ensures.items)
          (dart_new names c.requires.below back old front c.requires.marks i darts by next j d c.loop-d.invariant refl dart.0 in_front w.if-by-y.true)
      | else-by-y w ↦
          rw (w.by-is, w.next-is)
          (dart_met names c.requires.below back old front c.requires.marks i darts by next j d c.loop-d.invariant refl dart.0 w.if-by-y.false)
    ]

pub loop-x-preserved : goal.loop-x-preserved
loop-x-preserved c =
    let names = c.args.names.now in
    let web = c.args.stars.now in
    let front = c.args.front.now in
    let i = c.loop-x.x-index in
    let x = at front i in
    let darts = c.at-d-items.result.now in
    let j = c.loop-d.d-index in
    face_done names c.requires.below (dual_reverse names web c.requires.dual) c.args.by.now front c.requires.marks i x darts c.loop-d.by c.loop-d.next.items j
    c.loop-d.invariant c.loop-x-test.true refl
    (λ d d_in named. dual_place names web c.requires.dual x darts c.at-d-items.ensures j c.loop-d-test.false d d_in named)

pub returns : goal.returns
returns c =
    let names = c.args.names.now in
    let old = c.args.by.now in
    let front = c.args.front.now in
    let all : c.loop-x.x-index ≡ length front = omega (arith, c.loop-x-test.false) in
    subst (λ k. IsRound names old front k [] 0 c.loop-x.by c.loop-x.next.items) all c.loop-x.invariant
