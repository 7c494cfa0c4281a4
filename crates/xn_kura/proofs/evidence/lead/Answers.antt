use Rattle.std.proofs.Common.{arith}
use Rattle.xn_kura.proofs.Stages.{lead_all}
use Rattle.xn_kura.proofs.evidence.lead.Goals as goal

pub returns-clause-ok : goal.returns-clause-ok
returns-clause-ok c =
    lead_all c.args.web.now.ends c.args.branch.now c.args.pairs.now c.args.paths.now c.requires.paths (λ i i_in. c.loop-q.invariant i (omega (arith, i_in, c.loop-q-test.false)))
