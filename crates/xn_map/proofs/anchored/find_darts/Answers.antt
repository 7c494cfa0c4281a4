use Rattle.std.proofs.Common.{arith}
use Rattle.xn_map.proofs.Anchoring.{found_more}
use Rattle.xn_map.proofs.anchored.find_darts.Goals as goal

pub loop-d-preserved : goal.loop-d-preserved
loop-d-preserved c = found_more c.args.web.now c.loop-d.d c.tail-v.result c.loop-d.darts c.loop-d.invariant (omega (arith, c.loop-d-test.true, c.segments-d-end.ensures.value)) c.tail-v.ensures.value c.tail-v.ensures.node
