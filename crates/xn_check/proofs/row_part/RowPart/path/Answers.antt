use Rattle.std.proofs.Common.{◌∙◌, sym}
use Rattle.xn_check.proofs.Parts.{last_path}
use Rattle.xn_check.proofs.row_part.RowPart.path.Goals as goal

pub returns-clause-judged : goal.returns-clause-judged
returns-clause-judged c =
    last_path c.args.self.now c.add_path.new.self c.take_evidence-evidence.new.self c.args.path c.take_evidence-evidence.result c.args.graph.now
    c.args.number c.close.result (sym c.comes_to_last-last.ensures ∙ c.if-not-last.false) c.in_ok-add_path.ensures c.take_evidence-evidence.ensures.evidence
    c.take_evidence-evidence.ensures.said c.close.ensures.judged
