use Rattle.std.proofs.Common.{arith}
use Rattle.std.proofs.lemmas.Int.{ints}
use Rattle.xn_frac.specs.Ratio.{IsInRange}
use Rattle.xn_frac.proofs.Signs.{back}
use Rattle.xn_frac.proofs.Wholes.{whole_frac}
use Rattle.xn_frac.proofs.frac.Frac.whole.Goals as goal

pub invariant_of-result : goal.invariant_of-result
invariant_of-result c =
    let small : IsInRange c.args.num = omega (arith, ints) in
    rw (back c.args.num small) (whole_frac c.args.num small)
