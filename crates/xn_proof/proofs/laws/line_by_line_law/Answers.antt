use Rattle.xn_proof.proofs.AnswerLines.{lines_say_its_items, lines_say_the_answer}
use Rattle.xn_proof.proofs.laws.line_by_line_law.Goals as goal

pub returns-clause-answer : goal.returns-clause-answer
returns-clause-answer c = lines_say_the_answer

pub returns-clause-items : goal.returns-clause-items
returns-clause-items c = lines_say_its_items
