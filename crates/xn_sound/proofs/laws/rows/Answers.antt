use Rattle.xn_sound.proofs.Rows.{evidence_excludes_flat_maps, rows_are_met}
use Rattle.xn_sound.proofs.laws.rows.Goals as goal

pub returns-clause-evidence : goal.returns-clause-evidence
returns-clause-evidence c =
    evidence_excludes_flat_maps c.evidence_excludes_flat_maps.ensures.five c.evidence_excludes_flat_maps.ensures.three_three c.stuck_lists.ensures.stuck

pub returns-clause-met : goal.returns-clause-met
returns-clause-met c = rows_are_met c.fewer_edges.ensures c.rows_of_value_zero.ensures (returns-clause-evidence c)
