use Rattle.xn_sound.proofs.Accepted.{accepted_proofs_bound}
use Rattle.xn_sound.proofs.laws.accepted_proofs.Goals as goal

pub returns : goal.returns
returns c = accepted_proofs_bound c.all_drawings.ensures.least c.rows.ensures.met c.trees.ensures.proves c.drawings_lie_in_states.ensures.empty
