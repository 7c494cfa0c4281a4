use Rattle.std.proofs.Common.{◌≡◌, ◌*◌, map}
use Rattle.std.specs.List.{range_with_len}
use Rattle.xn_insert.proofs.starting.first_darts.Given as goal

abbrev pub invariant-loop-i : goal.invariant-loop-i
invariant-loop-i l = l.darts.items ≡ map (λ x. 2 * x) (range_with_len l.first l.i)
