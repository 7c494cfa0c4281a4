use Rattle.xn_text.proofs.Cuts.{words_are_the_line, joined_are_found}
use Rattle.xn_text.proofs.laws.word_laws.Goals as goal

pub returns-clause-joined : goal.returns-clause-joined
returns-clause-joined c = words_are_the_line

pub returns-clause-found : goal.returns-clause-found
returns-clause-found c = joined_are_found
