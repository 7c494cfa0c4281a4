use Rattle.xn_programs.proofs.Grown.{extends_more}
use Rattle.xn_programs.proofs.deciding.ByProgramsDecider.decide.Goals as goal

pub returns-clause-more : goal.returns-clause-more
returns-clause-more g c =
    extends_more c.args.rows.now.items c.turns.new.rows.items c.planted.new.rows.items c.in_ok-leaf.ensures.grown.more c.in_ok-decision.ensures.more

pub returns-clause-kinds : goal.returns-clause-kinds
returns-clause-kinds g c = λ kinds. c.in_ok-decision.ensures.kinds (c.in_ok-leaf.ensures.grown.kinds kinds)
