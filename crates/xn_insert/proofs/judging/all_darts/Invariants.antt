use Rattle.std.proofs.Common.{◌≡◌}
use Rattle.std.specs.List.{flat_map, range_with_len}
use Rattle.xn_insert.specs.ListedLoose.{walk_of}
use Rattle.xn_insert.proofs.judging.all_darts.Given as goal

abbrev pub invariant-loop-e : goal.invariant-loop-e
invariant-loop-e l = l.darts.items ≡ flat_map (walk_of l.walks) (range_with_len 0 l.e)
