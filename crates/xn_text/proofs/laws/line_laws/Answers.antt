use Rattle.xn_text.proofs.Cuts.{ended_stands, last_stands, ended_is_taken}
use Rattle.xn_text.proofs.laws.line_laws.Goals as goal

pub returns-clause-ended : goal.returns-clause-ended
returns-clause-ended c = ended_stands

pub returns-clause-last : goal.returns-clause-last
returns-clause-last c = last_stands

pub returns-clause-taken : goal.returns-clause-taken
returns-clause-taken c = ended_is_taken
