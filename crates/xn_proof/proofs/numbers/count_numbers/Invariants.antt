use Rattle.std.proofs.Common.{◌≡◌, ◌+◌, length}
use Rattle.xn_text.specs.Pieces.{words_of}
use Rattle.xn_proof.specs.Reading.{each_at, value_at, values_of}
use Rattle.xn_proof.proofs.Tested.{Leads}
use Rattle.xn_proof.proofs.numbers.count_numbers.Given as goal

-- what is read of the words that are left is read of all, and those so far are counted
abbrev pub invariant-loop-word : goal.invariant-loop-word
invariant-loop-word l = record {
  leads : Leads (each_at (value_at l.number)) values_of l.words (words_of l.line);
  count : l.count + length l.words ≡ length (words_of l.line);
}

abbrev pub decreases-loop-word : goal.decreases-loop-word
decreases-loop-word l = length l.words
