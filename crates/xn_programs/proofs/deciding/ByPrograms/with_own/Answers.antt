use Rattle.xn_programs.proofs.Grown.{grown_more}
use Rattle.xn_programs.proofs.deciding.ByPrograms.with_own.Goals as goal

pub returns-clause-grown : goal.returns-clause-grown
returns-clause-grown g c =
    grown_more c.args.claim.now.graph.now c.args.rows.now.items c.keep.new.rows.items c.turns.new.rows.items c.in_ok-keep.ensures.grown c.in_ok-leaf.ensures.grown
