use Rattle.std.proofs.Common.{arith}
use Rattle.xn_simple.proofs.ReadOff.{are_numbers, few_apart}
use Rattle.xn_simple.proofs.reading.numbers_of.Goals as goal

pub overflow_cast-i : goal.overflow_cast-i
overflow_cast-i c =
    let few = few_apart c.args.count c.args.edges.now c.requires.below c.requires.apart in
    omega (arith, few)

pub returns : goal.returns
returns c =
    let all = c.loop-i.invariant in
    are_numbers c.args.count c.args.edges.now c.loop-i.numbers.items all.fits c.requires.apart (λ x x_in. all.held x (omega (arith, x_in)))
