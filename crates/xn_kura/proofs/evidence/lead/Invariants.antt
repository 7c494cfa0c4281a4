use Rattle.xn_kura.specs.Flaws.{LeadBefore}
use Rattle.xn_kura.proofs.evidence.lead.Given as goal

-- the paths so far lead to their branch nodes
abbrev pub invariant-loop-q : goal.invariant-loop-q
invariant-loop-q l = LeadBefore l.web.ends l.pairs l.branch l.paths l.q
