use Rattle.std.proofs.Common.{◌≡◌, ◌<◌, length, arith}
use Rattle.std.proofs.lemmas.List.{get_or_read}
use Rattle.xn_lp.specs.Box.{entry}
use Rattle.xn_lp.proofs.Denominators.{divides_more}
use Rattle.xn_lp.proofs.scaled.common_denominator.Goals as goal

pub loop-fraction-preserved : goal.loop-fraction-preserved
loop-fraction-preserved c =
    let in' : c.loop-fraction.fraction-index < length c.args.fractions.now = omega arith in
    let item : c.fraction-item.result ≡ entry c.args.fractions.now c.loop-fraction.fraction-index = get_or_read c.args.fractions.now _ _ in' c.fraction-item.is _ in (
      c.in_ok-over.ensures.above,
      divides_more c.args.fractions.now c.loop-fraction.fraction-index c.fraction-item.result c.in_ok-over.over item
          (λ k l. c.in_ok-over.ensures.kept _ (c.loop-fraction.invariant.1 k l)) c.in_ok-over.ensures.divided,
    )
