use Rattle.xn_programs.specs.Turns.{IsGrown}
use Rattle.xn_programs.proofs.turns.goes_on.Given as goal

abbrev pub invariant-loop-cutter : goal.invariant-loop-cutter
invariant-loop-cutter g l = IsGrown l.claim.graph.now l.fn.rows.items l.rows.items
