use Rattle.xn_programs.proofs.Parts.{rise_all}
use Rattle.xn_programs.proofs.leaves.rises.Goals as goal

pub returns : goal.returns
returns c = λ is_true. rise_all c.args.parts.now c.loop-i.i c.loop-i.invariant c.loop-i-test.false
