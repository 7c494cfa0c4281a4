use Rattle.std.proofs.Common.{◌≡◌, map, take}
use Rattle.xn_list.specs.Lists.{lists_of}
use Rattle.xn_insert.specs.Cuts.{cut_darts}
use Rattle.xn_insert.proofs.growing.cut_walks.Given as goal

abbrev pub invariant-loop-x : goal.invariant-loop-x
invariant-loop-x l = lists_of l.lists.items ≡ map (cut_darts l.cuts) (take l.x l.walks)
