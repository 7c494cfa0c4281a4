use Rattle.xn_lp.proofs.simplex.settle.Given as goal

abbrev pub decreases-loop-leaving : goal.decreases-loop-leaving
decreases-loop-leaving l = l.left
