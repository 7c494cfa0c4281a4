use Rattle.std.proofs.Common.{◌≡◌, true}
use Rattle.std.specs.Prelude.{All}
use Rattle.xn_model.specs.Lists.{has}
use Rattle.xn_plant.proofs.used.push_edges.Given as goal

abbrev pub invariant-loop-s : goal.invariant-loop-s
invariant-loop-s l = All (λ e. has l.by_segment e ≡ true) l.used.items
