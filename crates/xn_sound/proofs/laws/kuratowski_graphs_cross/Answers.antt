use Rattle.xn_sound.proofs.Accepted.{kuratowski_graphs_cross}
use Rattle.xn_sound.proofs.laws.kuratowski_graphs_cross.Goals as goal

pub returns : goal.returns
returns c = kuratowski_graphs_cross c.all_drawings.ensures.least c.kuratowski_graphs.ensures
