use Rattle.std.proofs.Common.{◌≡◌, take}
use Rattle.xn_insert.specs.Cuts.{cut_darts}
use Rattle.xn_insert.proofs.growing.cut_walk.Given as goal

abbrev pub invariant-loop-d : goal.invariant-loop-d
invariant-loop-d l = l.darts.items ≡ cut_darts l.cuts (take l.d-index l.walk)
