use Rattle.std.proofs.Common.{◌≡◌, ◌<◌, ◌≤◌, ℕ, true, length}
use Rattle.std.specs.Prelude.{slice_index}
use Rattle.xn_model.specs.Lists.{has}
use Rattle.xn_kinds.specs.Row.{orders_of}
use Rattle.xn_tree.specs.Given.{state_of}
use Rattle.xn_search.proofs.branching.open_place.Given as goal

abbrev pub invariant-loop-i : goal.invariant-loop-i
invariant-loop-i l = (a f : ℕ) → a < l.i → 2 ≤ length (orders_of l.row (slice_index l.row.edges a)) → has (orders_of l.row (slice_index l.row.edges a)) f ≡ true →
    has ((state_of l.given).placed (slice_index l.row.edges a)) f ≡ true
