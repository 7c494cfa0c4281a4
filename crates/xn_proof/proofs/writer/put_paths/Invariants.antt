use Rattle.std.proofs.Common.{◌≡◌, ◌++◌, take}
use Rattle.xn_proof.specs.Spelling.{each, path_line}
use Rattle.xn_proof.proofs.writer.put_paths.Given as goal

-- the lines so far stand at the end
abbrev pub invariant-loop-i : goal.invariant-loop-i
invariant-loop-i l = l.to.items ≡ l.fn.to.items ++ each path_line (take l.i (l.paths))
