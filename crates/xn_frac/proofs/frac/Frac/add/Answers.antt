use Rattle.std.proofs.Common.{inl, refl}
use Rattle.std.specs.Int.{IsGcd}
use Rattle.xn_frac.specs.Ratio.{IsFrac}
use Rattle.xn_frac.proofs.Sums.{sum_is, sum_above, not_sum}
use Rattle.xn_frac.proofs.frac.Frac.add.Goals as goal

pub lowest-requires-clause-den : goal.lowest-requires-clause-den
lowest-requires-clause-den c =
    rw (c.in-Some.ensures.value.1, ← c.self.view_is, ← c.other.view_is) (sum_above _ _ _ c.self.invariant c.other.invariant c.gcd-common.ensures)

pub invariant_of-result : goal.invariant_of-result
invariant_of-result c =
    let common : IsGcd c.args.self.den c.args.other.den c.gcd-common.result = rw (← c.self.view_is, ← c.other.view_is) c.gcd-common.ensures in
    record { refused = ∣ inl (not_sum c.args.self c.args.other c.gcd-common.result common c.in-None.ensures.none) ∣₁ }

pub returns-in-Some-clause-ok : goal.returns-in-Some-clause-ok
returns-in-Some-clause-ok c =
    let common : IsGcd c.args.self.den c.args.other.den c.gcd-common.result = rw (← c.self.view_is, ← c.other.view_is) c.gcd-common.ensures in
    let self : IsFrac c.args.self = rw (← c.self.view_is) c.self.invariant in
    let other : IsFrac c.args.other = rw (← c.other.view_is) c.other.invariant in
    sum_is c.args.self c.args.other c.lowest.result c.gcd-common.result c.in-Some.num c.in-Some.den self other common
    c.in-Some.ensures.some c.in-Some.ensures.value.0 c.in-Some.ensures.value.1 c.lowest.ensures

pub returns-in-Some-clause-fits : goal.returns-in-Some-clause-fits
returns-in-Some-clause-fits c =
    (c.gcd-common.result, rw (← c.self.view_is, ← c.other.view_is) c.gcd-common.ensures, c.in-Some.ensures.some)

pub returns-in-None-clause-err : goal.returns-in-None-clause-err
returns-in-None-clause-err c =
    let common : IsGcd c.args.self.den c.args.other.den c.gcd-common.result = rw (← c.self.view_is, ← c.other.view_is) c.gcd-common.ensures in
    (not_sum c.args.self c.args.other c.gcd-common.result common c.in-None.ensures.none, refl, refl)
