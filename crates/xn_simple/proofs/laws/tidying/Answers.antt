use Rattle.xn_simple.proofs.Tidied.{loosened_walks_are_drawings}
use Rattle.xn_simple.proofs.laws.tidying.Goals as goal

pub returns : goal.returns
returns c = loosened_walks_are_drawings
