use Rattle.xn_proof.proofs.Appended.{pairs_more}
use Rattle.xn_proof.proofs.writing.put_pairs.Goals as goal

pub loop-pair-preserved : goal.loop-pair-preserved
loop-pair-preserved c = pairs_more c.args.pairs.now c.loop-pair.pair-index c.args.to.now.items c.loop-pair.to.items c.put_number.new.to.items c.put_number-in-loop-pair.new.to.items c.loop-pair-test.true c.loop-pair.invariant (rw c.from.ensures at c.in_ok-put_number.ensures) c.in_ok-put_number-2.ensures
