use Rattle.std.proofs.Common.{◌≡◌, ◌+◌, ◌≤◌, length}
use Rattle.xn_gml.specs.Lists.{listed_pairs_from}
use Rattle.xn_gml.proofs.lists.skip_list.Given as goal

abbrev pub invariant-loop-depth : goal.invariant-loop-depth
invariant-loop-depth l = record {
  same : listed_pairs_from l.depth l.tokens ≡ listed_pairs_from 1 l.initial.tokens;
  few : l.depth + length l.tokens ≤ 1 + length l.initial.tokens;
  shorter : length l.tokens ≤ length l.initial.tokens;
}

abbrev pub decreases-loop-depth : goal.decreases-loop-depth
decreases-loop-depth l = length l.tokens
