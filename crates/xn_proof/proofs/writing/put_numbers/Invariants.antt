use Rattle.std.proofs.Common.{◌≡◌, ◌++◌, take}
use Rattle.xn_proof.specs.Spelling.{spaced}
use Rattle.xn_proof.proofs.writing.put_numbers.Given as goal

-- the numbers so far stand at the end
abbrev pub invariant-loop-n : goal.invariant-loop-n
invariant-loop-n l = l.to.items ≡ l.fn.to.items ++ spaced (take l.n-index l.numbers)
