use Rattle.std.proofs.Common.{◌≡◌, ◌++◌, take}
use Rattle.xn_proof.specs.Spelling.{each, turn_line, turns_of}
use Rattle.xn_proof.proofs.writer.put_turns.Given as goal

-- the lines so far stand at the end
abbrev pub invariant-loop-s : goal.invariant-loop-s
invariant-loop-s l = l.to.items ≡ l.fn.to.items ++ each turn_line (take l.s (turns_of l.next))
