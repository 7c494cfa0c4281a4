use Rattle.xn_extend.specs.ListFlaw.{FrontMarked}
use Rattle.xn_extend.proofs.lists.first_misfit.Given as goal

abbrev pub invariant-loop-place : goal.invariant-loop-place
invariant-loop-place l = FrontMarked l.web l.list l.place l.used l.met
