use Rattle.std.proofs.Common.{◌≡◌, ◌++◌, take}
use Rattle.xn_proof.specs.Spelling.{numbers_of, spaced}
use Rattle.xn_proof.proofs.writing.put_pairs.Given as goal

-- the pairs so far stand at the end
abbrev pub invariant-loop-pair : goal.invariant-loop-pair
invariant-loop-pair l = l.to.items ≡ l.fn.to.items ++ spaced (numbers_of (take l.pair-index l.pairs))
