use Rattle.xn_dmp.specs.Growing.{Grows}
use Rattle.xn_dmp.proofs.proposing.Proposer.place_darts.Given as goal

abbrev pub invariant-loop-d : goal.invariant-loop-d
invariant-loop-d l = Grows l.fn.growth l.growth
