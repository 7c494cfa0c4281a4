use Rattle.std.proofs.Common.{ℕ, ◌*◌, arith, rules, ap}
use Rattle.xn_frac.proofs.Naturals.{by_parts, by_rests, by_right_rest}
use Rattle.xn_frac.proofs.whole.is_below.Goals as goal

pub returns-then-left-right : goal.returns-then-left-right
returns-then-left-right c =
    let kept = c.loop-a.invariant in
    let here = by_parts c.loop-a.p c.loop-a.q c.loop-a.r c.loop-a.s kept.0 kept.1 c.if-left-right.true in
    (λ t. kept.2.0 (here.0 t), λ h. here.1 (kept.2.1 h))

pub returns-then-right_rest-eq0 : goal.returns-then-right_rest-eq0
returns-then-right_rest-eq0 c =
    let kept = c.loop-a.invariant in
    let here = by_rests c.loop-a.p c.loop-a.q c.loop-a.r c.loop-a.s c.if-left-right.false in
    let none = ap (λ (n : ℕ). c.loop-a.q * n) c.if-right_rest-eq0.true in
    (λ t. absurd (search rules), λ h. absurd (omega (arith, here.0 (kept.2.1 h), none)))

pub returns-then-left_rest-eq0 : goal.returns-then-left_rest-eq0
returns-then-left_rest-eq0 c =
    let kept = c.loop-a.invariant in
    let below = by_right_rest c.loop-a.p c.loop-a.q c.loop-a.r c.loop-a.s kept.0 c.if-left-right.false c.if-left_rest-eq0.true c.if-right_rest-eq0.false in
    (λ t. kept.2.0 below, λ h. search rules)

pub loop-a-preserved : goal.loop-a-preserved
loop-a-preserved c =
    let kept = c.loop-a.invariant in
    let here = by_rests c.loop-a.p c.loop-a.q c.loop-a.r c.loop-a.s c.if-left-right.false in
    (omega arith, omega arith, (λ t. kept.2.0 (here.1 t), λ h. here.0 (kept.2.1 h)))
