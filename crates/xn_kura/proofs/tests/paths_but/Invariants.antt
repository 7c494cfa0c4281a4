use Rattle.std.proofs.Common.{◌≡◌, length}
use Rattle.xn_kura.proofs.tests.paths_but.Given as goal

-- a path for each place so far
abbrev pub invariant-loop-s : goal.invariant-loop-s
invariant-loop-s l = length l.lists.items ≡ l.s
