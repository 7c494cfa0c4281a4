use Rattle.std.proofs.Common.{◌≡◌, ◌≤◌, ℕ, true, length, take}
use Rattle.xn_model.specs.Lists.{at, has}
use Rattle.xn_insert.proofs.searching.first_marked.Given as goal

abbrev pub invariant-loop-x : goal.invariant-loop-x
invariant-loop-x l = (y : ℕ) → has (take l.x-index l.front) y ≡ true → length l.marks ≤ at l.marks y
