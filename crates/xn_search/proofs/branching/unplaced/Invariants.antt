use Rattle.std.proofs.Common.{◌≡◌, ℕ, true, take}
use Rattle.xn_model.specs.Lists.{has}
use Rattle.xn_tree.specs.Given.{state_of}
use Rattle.xn_search.proofs.branching.unplaced.Given as goal

abbrev pub invariant-loop-f : goal.invariant-loop-f
invariant-loop-f l = (f : ℕ) → has (take l.f-index l.list) f ≡ true → has ((state_of l.given).placed l.e) f ≡ true
