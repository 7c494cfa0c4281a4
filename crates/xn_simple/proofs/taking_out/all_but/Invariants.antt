use Rattle.std.proofs.Common.{◌≡◌, take}
use Rattle.xn_simple.specs.LaidAgain.{all_but_edge}
use Rattle.xn_simple.proofs.taking_out.all_but.Given as goal

-- those of the first edges
abbrev pub invariant-loop-x : goal.invariant-loop-x
invariant-loop-x l = l.rest.items ≡ all_but_edge l.e (take l.x-index l.edges)
