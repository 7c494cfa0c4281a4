use Rattle.xn_check.proofs.Ends.{accepted_has_proof}
use Rattle.xn_check.proofs.laws.accepted_texts.Goals as goal

pub returns : goal.returns
returns c = accepted_has_proof
