use Rattle.std.proofs.Common.{◌≤◌, length, arith}
use Rattle.xn_components.proofs.Flooded.{floods_end}
use Rattle.xn_components.proofs.flood.flood.Goals as goal

pub returns : goal.returns
returns c =
    let ends = c.args.web.now.ends in
    floods_end ends c.args.marks.now c.args.met.now c.args.list.now.items c.loop-i.marks c.loop-i.met c.loop-i.list.items c.loop-i.i c.loop-i.invariant c.requires.begun
    (omega (arith, c.loop-i-test.false, c.loop-i.auto.i-end, c.segments-i-end.ensures.value))
