use Rattle.std.proofs.Common.{◌≡◌, take}
use Rattle.xn_list.specs.Lists.{lists_of}
use Rattle.xn_cut.specs.Kept.{lists_kept}
use Rattle.xn_cut.proofs.parts.kept_lists.Given as goal

abbrev pub invariant-loop-e : goal.invariant-loop-e
invariant-loop-e l = lists_of l.lists.items ≡ lists_kept l.orders l.kept (take l.e-index l.edges)
