use Rattle.std.proofs.Common.{◌≡◌, ◌<◌, ℕ, false}
use Rattle.xn_kura.specs.Flaws.{wrong_branch}
use Rattle.xn_kura.proofs.evidence.first_wrong_branch.Given as goal

-- no branch node so far is wrong
abbrev pub invariant-loop-i : goal.invariant-loop-i
invariant-loop-i l = (j : ℕ) → j < l.i → wrong_branch l.nodes l.branch j ≡ false
