use Rattle.std.proofs.Common.{◌∙◌, arith}
use Rattle.xn_simple.proofs.Changed.{reversed_all, reversed_more, reversed_none}
use Rattle.xn_simple.proofs.changing.reversed.Goals as goal

pub loop-i-init : goal.loop-i-init
loop-i-init c = c.in_ok-darts.ensures.items ∙ reversed_none c.args.walk.now

pub loop-i-preserved : goal.loop-i-preserved
loop-i-preserved c =
    c.in_ok-push.ensures.items ∙ reversed_more c.loop-i.darts.items c.args.walk.now c.loop-i.i (omega arith) c.loop-i.invariant

pub returns : goal.returns
returns c = reversed_all c.loop-i.darts.items c.args.walk.now c.loop-i.i (omega arith) c.loop-i.invariant
