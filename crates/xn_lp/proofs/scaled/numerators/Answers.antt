use Rattle.std.proofs.Common.{◌≡◌, ◌<◌, length, subst, sym, arith}
use Rattle.std.proofs.lemmas.List.{get_or_read}
use Rattle.xn_frac.specs.Ratio.{Ratio}
use Rattle.xn_lp.specs.Box.{entry}
use Rattle.xn_lp.specs.Whole.{Divides}
use Rattle.xn_lp.proofs.scaled.numerators.Goals as goal

pub numerator-requires-clause-divided : goal.numerator-requires-clause-divided
numerator-requires-clause-divided c =
    let in' : c.loop-fraction.fraction-index < length c.args.fractions.now = omega arith in
    let item : c.fraction-item.result ≡ entry c.args.fractions.now c.loop-fraction.fraction-index = get_or_read c.args.fractions.now _ _ in' c.fraction-item.is _ in
    subst (λ (p : Ratio). Divides p.den c.args.over) (sym item) (c.requires.divided c.loop-fraction.fraction-index in')
