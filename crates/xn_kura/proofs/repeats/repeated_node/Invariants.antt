use Rattle.std.proofs.Common.{take}
use Rattle.xn_model.specs.Evidence.{all_inner}
use Rattle.xn_kura.specs.Marks.{Clears}
use Rattle.xn_kura.proofs.repeats.repeated_node.Given as goal

-- the inner nodes of the paths passed aren't marked any more
abbrev pub invariant-loop-q : goal.invariant-loop-q
invariant-loop-q l = Clears l.initial.marks (all_inner l.web.ends l.branch (take l.q l.pairs) (take l.q l.paths)) l.marks
