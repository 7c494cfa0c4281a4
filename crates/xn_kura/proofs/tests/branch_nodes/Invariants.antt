use Rattle.std.proofs.Common.{◌≡◌}
use Rattle.xn_kura.proofs.tests.branch_nodes.Given as goal

-- the marks stay as they were made
abbrev pub invariant-loop-branch : goal.invariant-loop-branch
invariant-loop-branch g l = l.marks ≡ l.initial.marks
