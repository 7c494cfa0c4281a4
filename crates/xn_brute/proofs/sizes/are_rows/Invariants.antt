use Rattle.std.proofs.Common.{ℕ, ◌<◌, get_or}
use Rattle.xn_brute.proofs.sizes.are_rows.Given as goal

abbrev pub invariant-loop-number : goal.invariant-loop-number
invariant-loop-number l = (k : ℕ) → k < l.number-index → (get_or l.parts k (0, 0)).0 < l.rows
