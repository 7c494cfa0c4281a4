use Rattle.std.proofs.Common.{◌≡◌, ℕ, ◌<◌, length}
use Rattle.xn_model.specs.Lists.{at}
use Rattle.xn_components.specs.Ranks.{ranked_dart}
use Rattle.xn_components.proofs.sorting.set_names.Given as goal

abbrev pub invariant-loop-d : goal.invariant-loop-d
invariant-loop-d l = record {
  size : length l.turns ≡ length l.next;
  turn : (x : ℕ) → x < l.d → at l.turns (ranked_dart l.order l.rank x) ≡ ranked_dart l.order l.rank (at l.next x);
}
