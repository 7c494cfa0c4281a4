use Rattle.std.proofs.Common.{take}
use Rattle.std.specs.List.{concat}
use Rattle.xn_kura.specs.Marks.{Clears}
use Rattle.xn_kura.proofs.repeats.repeated_segment.Given as goal

-- the paths passed aren't marked any more
abbrev pub invariant-loop-q : goal.invariant-loop-q
invariant-loop-q l = Clears l.initial.marks (concat (take l.q l.paths)) l.marks
