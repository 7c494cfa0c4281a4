use Rattle.xn_loose.proofs.OnlyWalked.{parts_give_drawings, walks_give_drawings}
use Rattle.xn_loose.proofs.PartSums.{bounds_add_up, crossings_add_up}
use Rattle.xn_loose.proofs.laws.parts.Goals as goal

pub returns-clause-walks : goal.returns-clause-walks
returns-clause-walks c = walks_give_drawings

pub returns-clause-parts : goal.returns-clause-parts
returns-clause-parts c = parts_give_drawings

pub returns-clause-sum : goal.returns-clause-sum
returns-clause-sum c = crossings_add_up

pub returns-clause-bounds : goal.returns-clause-bounds
returns-clause-bounds c = bounds_add_up
