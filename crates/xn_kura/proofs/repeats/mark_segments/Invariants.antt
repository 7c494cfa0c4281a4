use Rattle.std.proofs.Common.{take}
use Rattle.std.specs.List.{concat}
use Rattle.xn_kura.specs.Marks.{MarksMore}
use Rattle.xn_kura.proofs.repeats.mark_segments.Given as goal

-- the paths passed are marked besides
abbrev pub invariant-loop-q : goal.invariant-loop-q
invariant-loop-q l = MarksMore l.initial.marks (concat (take l.q l.paths)) l.marks
