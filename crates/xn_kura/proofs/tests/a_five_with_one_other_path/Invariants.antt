use Rattle.std.proofs.Common.{◌≡◌}
use Rattle.xn_kura.proofs.tests.a_five_with_one_other_path.Given as goal

-- the marks stay as they were made
abbrev pub invariant-loop-place : goal.invariant-loop-place
invariant-loop-place g l = l.marks ≡ l.initial.marks
