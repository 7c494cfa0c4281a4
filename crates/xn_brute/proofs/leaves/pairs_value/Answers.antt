use Rattle.std.proofs.Common.{arith, ap, drop, ◌≡◌, [], drop_of_length-le}
use Rattle.xn_brute.specs.Leaf.{independent_part}
use Rattle.xn_brute.proofs.Sums.{each_pair, each_pair-is}
use Rattle.xn_brute.proofs.leaves.pairs_value.Goals as goal

pub returns-clause-value : goal.returns-clause-value
returns-clause-value c = λ v fits.
    let edges = c.as_slice-edges.result.now in
    let h = independent_part c.args.graph.now c.args.row.now v in
    let rest : drop c.loop-i.i edges ≡ [] = drop_of_length-le edges c.loop-i-test.false in
    let all : each_pair h edges ≡ each_pair h c.args.row.now.edges = ap (each_pair h) c.as_slice-edges.ensures in
    omega (arith, each_pair-is c.args.graph.now c.args.row.now v c.args.row.now.edges, all, c.loop-i.invariant.value v fits, ap (each_pair h) rest)
