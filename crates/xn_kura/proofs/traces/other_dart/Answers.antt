use Rattle.std.proofs.Common.{inl, inr, arith}
use Rattle.xn_kura.proofs.Tracing.{other_at, star_below, star_two}
use Rattle.xn_kura.proofs.traces.other_dart.Goals as goal

pub bounds-star-0 : goal.bounds-star-0
bounds-star-0 c =
    let two = star_two c.args.web.now c.args.stars.now c.tail.result c.args.d c.at-star.result.now c.requires.stars c.tail.ensures.value c.at-star.ensures c.requires.two in
    omega (arith, two)

pub bounds-star-1 : goal.bounds-star-1
bounds-star-1 c =
    let two = star_two c.args.web.now c.args.stars.now c.tail.result c.args.d c.at-star.result.now c.requires.stars c.tail.ensures.value c.at-star.ensures c.requires.two in
    omega (arith, two)

pub bounds-star-0-else-star-d : goal.bounds-star-0-else-star-d
bounds-star-0-else-star-d c =
    let two = star_two c.args.web.now c.args.stars.now c.tail.result c.args.d c.at-star.result.now c.requires.stars c.tail.ensures.value c.at-star.ensures c.requires.two in
    omega (arith, two)

pub returns-then-star-d-clause-below : goal.returns-then-star-d-clause-below
returns-then-star-d-clause-below c =
    let two = star_two c.args.web.now c.args.stars.now c.tail.result c.args.d c.at-star.result.now c.requires.stars c.tail.ensures.value c.at-star.ensures c.requires.two in
    star_below c.args.web.now c.args.stars.now c.tail.result c.at-star.result.now 1 c.requires.stars c.at-star.ensures (omega (arith, two))

pub returns-else-star-d-clause-below : goal.returns-else-star-d-clause-below
returns-else-star-d-clause-below c =
    let two = star_two c.args.web.now c.args.stars.now c.tail.result c.args.d c.at-star.result.now c.requires.stars c.tail.ensures.value c.at-star.ensures c.requires.two in
    star_below c.args.web.now c.args.stars.now c.tail.result c.at-star.result.now 0 c.requires.stars c.at-star.ensures (omega (arith, two))

pub returns-then-star-d-clause-other : goal.returns-then-star-d-clause-other
returns-then-star-d-clause-other c z z_in z_at apart =
    elim (other_at c.args.web.now c.args.stars.now c.tail.result c.args.d z c.at-star.result.now c.requires.stars c.tail.ensures.value c.at-star.ensures c.requires.two c.requires.dart z_in z_at apart) [
      | inl h ↦ h.1
      | inr h ↦ absurd (h.0 c.if-star-d.true)
    ]

pub returns-else-star-d-clause-other : goal.returns-else-star-d-clause-other
returns-else-star-d-clause-other c z z_in z_at apart =
    elim (other_at c.args.web.now c.args.stars.now c.tail.result c.args.d z c.at-star.result.now c.requires.stars c.tail.ensures.value c.at-star.ensures c.requires.two c.requires.dart z_in z_at apart) [
      | inl h ↦ absurd (c.if-star-d.false h.0)
      | inr h ↦ h.1
    ]
