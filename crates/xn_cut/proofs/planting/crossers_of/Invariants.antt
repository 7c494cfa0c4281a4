use Rattle.std.proofs.Common.{◌≡◌, take}
use Rattle.xn_cut.specs.Planted.{crossers}
use Rattle.xn_cut.proofs.planting.crossers_of.Given as goal

abbrev pub invariant-loop-a : goal.invariant-loop-a
invariant-loop-a l = l.list.items ≡ crossers (take l.a-index l.pairs) l.e
