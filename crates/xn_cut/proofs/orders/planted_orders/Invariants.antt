use Rattle.std.proofs.Common.{◌≡◌, length}
use Rattle.xn_list.specs.Lists.{lists_of}
use Rattle.xn_cut.specs.Planted.{AreShuffled}
use Rattle.xn_cut.proofs.orders.planted_orders.Given as goal

abbrev pub invariant-loop-e : goal.invariant-loop-e
invariant-loop-e l = record {
  count : length (lists_of l.lists.items) ≡ l.e;
  so : AreShuffled l.pairs (lists_of l.lists.items);
}
