use Rattle.xn_proof.proofs.FrontTexts.{front_takes}
use Rattle.xn_proof.proofs.front.front_lines.Goals as goal

pub returns-clause-front : goal.returns-clause-front
returns-clause-front c = (front_takes c.args.reader.now c.in_ok-front.front c.ordered_lines.new.reader c.in_ok-front.ensures).is_front
