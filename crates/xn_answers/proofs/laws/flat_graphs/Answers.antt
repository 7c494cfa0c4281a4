use Rattle.xn_answers.proofs.Crossless.{flat_where_crossless}
use Rattle.xn_answers.proofs.laws.flat_graphs.Goals as goal

pub returns : goal.returns
returns c = flat_where_crossless c.all_drawings.ensures.drawings c.all_drawings.ensures.simple
