use Rattle.std.proofs.Common.{take}
use Rattle.xn_insert.specs.Judged.{AreTimes}
use Rattle.xn_insert.proofs.judging.times_of.Given as goal

abbrev pub invariant-loop-d : goal.invariant-loop-d
invariant-loop-d l = AreTimes l.segments (take l.d-index l.darts) l.times.items
