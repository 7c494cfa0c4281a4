use Rattle.std.proofs.Common.{ℕ, ◌<◌, ◌≤◌, [], get_or, length}
use Rattle.xn_brute.proofs.orders.are_short.Given as goal

abbrev pub invariant-loop-i : goal.invariant-loop-i
invariant-loop-i l = (k : ℕ) → k < l.i → length (get_or l.orders k []) ≤ 1000
