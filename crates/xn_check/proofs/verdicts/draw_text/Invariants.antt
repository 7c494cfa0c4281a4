use Rattle.std.proofs.Common.{length}
use Rattle.xn_check.proofs.Drawn.{Drawn}
use Rattle.xn_check.proofs.verdicts.draw_text.Given as goal

-- what comes of the lines that are left comes of the text
abbrev pub invariant-loop-line : goal.invariant-loop-line
invariant-loop-line l = Drawn l.fn.graph l.fn.loops l.fn.text l.judge l.lines

abbrev pub decreases-loop-line : goal.decreases-loop-line
decreases-loop-line l = length l.lines.1
