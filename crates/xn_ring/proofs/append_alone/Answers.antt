use Rattle.std.proofs.Common.{arith, length}
use Rattle.std.proofs.lemmas.Grind.{common_steps}
use Rattle.xn_ring.proofs.Inverse.{range_with_len-more}
use Rattle.xn_ring.proofs.append_alone.Goals as goal

pub loop-i-preserved : goal.loop-i-preserved
loop-i-preserved c = record {
  appended = grind (arith, common_steps, range_with_len-more (length c.args.xs.now.items) c.loop-i.i);
  start = c.loop-i.invariant.start;
  longer = omega arith;
  room = grind (arith, common_steps);
}
