use Rattle.std.proofs.Common.{◌≡◌, ◌++◌, take}
use Rattle.xn_proof.specs.Spelling.{each, over_line, overs_of}
use Rattle.xn_proof.proofs.writer.put_overs.Given as goal

-- the lines so far stand at the end
abbrev pub invariant-loop-i : goal.invariant-loop-i
invariant-loop-i l = l.to.items ≡ l.fn.to.items ++ each over_line (take l.i (overs_of l.edges l.orders))
