use Rattle.std.proofs.Common.{◌≡◌, ◌<◌, ℕ, true}
use Rattle.std.specs.Prelude.{◌↔◌}
use Rattle.xn_model.specs.Lists.{has}
use Rattle.xn_insert.specs.Search.{IsMarked}
use Rattle.xn_insert.proofs.searching.marked.Given as goal

abbrev pub invariant-loop-x : goal.invariant-loop-x
invariant-loop-x l = (y : ℕ) → (has l.front.items y ≡ true) ↔ ((y < l.x) × IsMarked l.marks l.marks y)
