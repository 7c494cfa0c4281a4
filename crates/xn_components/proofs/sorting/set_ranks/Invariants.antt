use Rattle.std.proofs.Common.{◌≡◌, ℕ, ◌<◌, length}
use Rattle.xn_model.specs.Lists.{at}
use Rattle.xn_components.proofs.sorting.set_ranks.Given as goal

abbrev pub invariant-loop-i : goal.invariant-loop-i
invariant-loop-i l = record {
  size : length l.rank ≡ length l.fn.rank;
  places : (j : ℕ) → j < l.i → at l.rank (at l.list j) ≡ j;
}
