use Rattle.std.proofs.Common.{take}
use Rattle.xn_kura.specs.Marks.{Clears}
use Rattle.xn_kura.proofs.marks.clear.Given as goal

-- what is passed isn't marked any more
abbrev pub invariant-loop-x : goal.invariant-loop-x
invariant-loop-x l = Clears l.initial.marks (take l.x-index l.list) l.marks
