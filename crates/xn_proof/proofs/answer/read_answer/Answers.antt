use Rattle.xn_proof.proofs.AnswerTexts.{answer_takes}
use Rattle.xn_proof.proofs.answer.read_answer.Goals as goal

pub returns-clause-well_formed : goal.returns-clause-well_formed
returns-clause-well_formed c = (answer_takes c.args.text.now c.in_ok-answer.answer c.in_ok-answer.ensures).0
