use Rattle.xn_ring.proofs.Splice.{IsSplice-swap, JoinsCycles-splice, JoinsCycles-split, Permutes-splice, splice_same, splice_undone, walk-others}
use Rattle.xn_ring.proofs.SplitRing.{cuts_ring}
use Rattle.xn_ring.proofs.laws.swaps.Goals as goal

pub returns-clause-permutes : goal.returns-clause-permutes
returns-clause-permutes c = Permutes-splice

pub returns-clause-undone : goal.returns-clause-undone
returns-clause-undone c = splice_undone

pub returns-clause-joins : goal.returns-clause-joins
returns-clause-joins c = JoinsCycles-splice

pub returns-clause-splits : goal.returns-clause-splits
returns-clause-splits c = JoinsCycles-split

pub returns-clause-others : goal.returns-clause-others
returns-clause-others c = walk-others

pub returns-clause-cuts : goal.returns-clause-cuts
returns-clause-cuts c = cuts_ring

pub returns-clause-lists : goal.returns-clause-lists
returns-clause-lists c = IsSplice-swap

pub returns-clause-same : goal.returns-clause-same
returns-clause-same c = splice_same
