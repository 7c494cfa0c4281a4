use Rattle.std.proofs.Common.{◌≤◌, arith}
use Rattle.xn_planar.proofs.Dropped.{front_apart}
use Rattle.xn_planar.proofs.shrinking.least_front.Goals as goal

pub has_flat_front-requires-clause-apart : goal.has_flat_front-requires-clause-apart
has_flat_front-requires-clause-apart c =
    let less : c.between-middle.result ≤ c.args.most = omega (arith, c.between-middle.ensures.high, c.loop-low.invariant.within) in
    front_apart c.args.web.now c.args.most c.args.kept.now c.requires.left c.between-middle.result less
