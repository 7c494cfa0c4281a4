use Rattle.std.proofs.Common.{◌∙◌}
use Rattle.xn_brute.proofs.Sums.{order_at-next}
use Rattle.xn_brute.proofs.leaves.order_of.Goals as goal

pub loop-i-preserved : goal.loop-i-preserved
loop-i-preserved c = order_at-next _ _ _ _ c.loop-i-test.true c.if-x-e.false ∙ c.loop-i.invariant
