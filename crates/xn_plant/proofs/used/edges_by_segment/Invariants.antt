use Rattle.std.proofs.Common.{◌≡◌, true}
use Rattle.std.specs.Prelude.{All}
use Rattle.xn_model.specs.Lists.{has}
use Rattle.xn_plant.proofs.used.edges_by_segment.Given as goal

abbrev pub invariant-loop : goal.invariant-loop
invariant-loop l = All (λ e. has l.row.edges e ≡ true) l.by_segment.items

abbrev pub invariant-loop-i : goal.invariant-loop-i
invariant-loop-i l = All (λ e. has l.row.edges e ≡ true) l.by_segment.items
