use Rattle.std.proofs.Common.{take}
use Rattle.xn_kura.specs.Marks.{MarksMore}
use Rattle.xn_kura.proofs.marks.mark.Given as goal

-- what is passed is marked besides
abbrev pub invariant-loop-x : goal.invariant-loop-x
invariant-loop-x l = MarksMore l.initial.marks (take l.x-index l.list) l.marks
