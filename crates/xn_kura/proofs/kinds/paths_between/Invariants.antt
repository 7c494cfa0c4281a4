use Rattle.std.proofs.Common.{◌≡◌, ◌<◌, ℕ, length}
use Rattle.std.specs.Prelude.{Some}
use Rattle.xn_list.specs.Lists.{lists_of}
use Rattle.xn_kura.specs.Flaws.{begins_at, goes_to, path_at}
use Rattle.xn_kura.specs.Straight.{IsStraightBetween}
use Rattle.xn_kura.proofs.kinds.paths_between.Given as goal

-- the pairs so far have straight paths
abbrev pub invariant-loop-i : goal.invariant-loop-i
invariant-loop-i l = record {
  long : length l.lists.items ≡ l.i-index;
  each : (q : ℕ) → q < l.i-index → IsStraightBetween l.web.ends (begins_at l.pairs l.nodes q) (goes_to l.pairs l.nodes q) (Some (path_at (lists_of l.lists.items) q));
}
