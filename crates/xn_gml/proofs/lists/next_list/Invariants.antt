use Rattle.std.proofs.Common.{◌≡◌, ◌≤◌, length}
use Rattle.xn_gml.specs.Lists.{lists_of}
use Rattle.xn_gml.proofs.lists.next_list.Given as goal

abbrev pub invariant-loop-pair : goal.invariant-loop-pair
invariant-loop-pair l = record {
  same : lists_of l.key l.tokens ≡ lists_of l.key l.initial.tokens;
  shorter : length l.tokens ≤ length l.initial.tokens;
}

abbrev pub decreases-loop-pair : goal.decreases-loop-pair
decreases-loop-pair l = length l.tokens
