use Rattle.std.proofs.Common.{arith}
use Rattle.std.proofs.lemmas.List.Sorted.{IsPermutation-trans}
use Rattle.xn_upper.proofs.shuffles.shuffle.Goals as goal

pub loop-k-preserved : goal.loop-k-preserved
loop-k-preserved c = record {
  moved = IsPermutation-trans _ _ _ c.loop-k.invariant.moved c.swap.ensures.permutation;
  small = omega (arith, c.next-j.ensures.state);
}
