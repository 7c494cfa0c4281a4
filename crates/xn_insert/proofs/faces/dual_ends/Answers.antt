use Rattle.std.proofs.Common.{◌≡◌, ◌+◌, ◌/◌, length, refl, sym, subst, arith}
use Rattle.xn_insert.specs.Routed.{AreDualEnds}
use Rattle.xn_insert.proofs.FacesAround.{dual_more}
use Rattle.xn_insert.proofs.faces.dual_ends.Goals as goal

pub loop-s-init : goal.loop-s-init
loop-s-init c =
    subst (AreDualEnds c.args.names.now 0) (sym c.new-ends.ensures.items) (record { size = refl; tails = λ d low. absurd (omega (arith, low)) })

pub loop-s-preserved : goal.loop-s-preserved
loop-s-preserved c =
    let names = c.args.names.now in
    let s = c.loop-s.s in
    subst (AreDualEnds names (s + 1)) (sym c.in_ok-push.ensures.items) (dual_more names s c.loop-s.ends.items c.loop-s.invariant)

pub returns : goal.returns
returns c =
    let names = c.args.names.now in
    let all : c.loop-s.s ≡ length names / 2 = omega (arith, c.loop-s-test.false, c.loop-s.auto.s-end) in
    subst (λ k. AreDualEnds names k c.loop-s.ends.items) all c.loop-s.invariant
