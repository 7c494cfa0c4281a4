use Rattle.std.proofs.Common.{◌≡◌, ◌++◌, take}
use Rattle.xn_proof.specs.Spelling.{each, row_text}
use Rattle.xn_proof.proofs.writer.put_rows.Given as goal

-- the lines so far stand at the end
abbrev pub invariant-loop-row : goal.invariant-loop-row
invariant-loop-row l = l.to.items ≡ l.fn.to.items ++ each row_text (take l.row-index (l.rows))
