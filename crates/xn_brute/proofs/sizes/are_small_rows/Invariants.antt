use Rattle.std.proofs.Common.{ℕ, ◌<◌}
use Rattle.xn_kinds.specs.Bound.{row_at}
use Rattle.xn_brute.specs.Leaf.{IsSmallRow}
use Rattle.xn_brute.proofs.sizes.are_small_rows.Given as goal

abbrev pub invariant-loop-row : goal.invariant-loop-row
invariant-loop-row l = (k : ℕ) → k < l.row-index → IsSmallRow l.graph (row_at l.rows k)
