use Rattle.xn_model.specs.Cycles.{IsCut}
use Rattle.xn_blocks.specs.Blocks.{ListsAll}
use Rattle.xn_blocks.proofs.cuts.cuts_of.Given as goal

abbrev pub invariant-loop-v : goal.invariant-loop-v
invariant-loop-v l = ListsAll l.v (IsCut l.stars.ends) l.cuts.items
