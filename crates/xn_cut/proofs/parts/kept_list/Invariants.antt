use Rattle.std.proofs.Common.{◌≡◌, take}
use Rattle.std.specs.Prelude.{filter}
use Rattle.xn_cut.specs.Kept.{is_kept}
use Rattle.xn_cut.proofs.parts.kept_list.Given as goal

abbrev pub invariant-loop-e : goal.invariant-loop-e
invariant-loop-e l = l.left.items ≡ filter (is_kept l.kept) (take l.e-index l.list)
