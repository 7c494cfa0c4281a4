use Rattle.std.proofs.Common.{◌≡◌, ◌≤◌, length}
use Rattle.xn_hint.proofs.kernels.numbers_of.Given as goal

abbrev pub invariant-loop-v : goal.invariant-loop-v
invariant-loop-v l = (length l.numbers.items ≡ l.v) × (l.next ≤ l.v)
