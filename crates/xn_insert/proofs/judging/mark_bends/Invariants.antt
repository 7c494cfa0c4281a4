use Rattle.xn_insert.specs.Judged.{MarksBends}
use Rattle.xn_insert.proofs.judging.mark_bends.Given as goal

abbrev pub invariant-loop-i : goal.invariant-loop-i
invariant-loop-i l = MarksBends l.map l.walk l.i l.fn.bends l.bends
