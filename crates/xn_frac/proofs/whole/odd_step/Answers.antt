use Rattle.std.proofs.Common.{◌<◌, ◌^◌, arith}
use Rattle.std.specs.Int.{trailing_zeros, w64}
use Rattle.xn_frac.proofs.Halving.{odd_part, odd_step, min_odd}
use Rattle.xn_frac.proofs.whole.odd_step.Goals as goal

pub returns-clause-odd : goal.returns-clause-odd
returns-clause-odd c =
    let above : 0 < c.abs_diff-gap.result = omega (arith, c.abs_diff-gap.ensures, c.requires.differ) in
    let small : c.abs_diff-gap.result < 2 ^ 64 = omega (arith, c.abs_diff-gap.type_inv) in
    (min_odd _ _ _ c.min.ensures c.requires.odd.0 c.requires.odd.1, (odd_part c.abs_diff-gap.result above small).1)

pub returns-clause-same : goal.returns-clause-same
returns-clause-same c g is =
    let above : 0 < c.abs_diff-gap.result = omega (arith, c.abs_diff-gap.ensures, c.requires.differ) in
    let small : c.abs_diff-gap.result < 2 ^ 64 = omega (arith, c.abs_diff-gap.type_inv) in
    let part = odd_part c.abs_diff-gap.result above small in
    odd_step c.args.x c.args.y (trailing_zeros w64 c.abs_diff-gap.result) g c.requires.odd.0 c.requires.odd.1
    (rw (← c.abs_diff-gap.ensures) part.0) (rw (← c.abs_diff-gap.ensures, ← c.min.ensures) is)
