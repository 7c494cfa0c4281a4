use Rattle.std.proofs.Common.{◌≡◌, take}
use Rattle.xn_cut.specs.Planted.{pairs_in, takes}
use Rattle.xn_cut.proofs.planting.planted_pairs.Given as goal

abbrev pub invariant-loop-variable : goal.invariant-loop-variable
invariant-loop-variable l = l.pairs.items ≡ pairs_in (takes l.rule) (take l.variable-index l.point)
