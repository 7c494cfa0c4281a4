use Rattle.xn_sound.proofs.Accepted.{examples_are_bounded}
use Rattle.xn_sound.proofs.laws.examples.Goals as goal

pub returns : goal.returns
returns c = examples_are_bounded c.accepted_proofs.ensures c.worked_examples.ensures.k5 c.worked_examples.ensures.branched
