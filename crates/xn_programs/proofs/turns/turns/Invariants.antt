use Rattle.xn_programs.specs.Turns.{IsGrown}
use Rattle.xn_programs.proofs.turns.turns.Given as goal

abbrev pub invariant-loop : goal.invariant-loop
invariant-loop g l = IsGrown l.claim.graph.now l.fn.rows.items l.rows.items
