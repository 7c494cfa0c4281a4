use Rattle.std.proofs.Common.{◌≡◌}
use Rattle.xn_table.proofs.table.Table.solve.Given as goal

-- A pivot takes away no column and no row.
abbrev pub invariant-loop-pivot : goal.invariant-loop-pivot
invariant-loop-pivot l = l.self ≡ l.fn.self
