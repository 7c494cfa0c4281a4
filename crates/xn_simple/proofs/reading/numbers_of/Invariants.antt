use Rattle.std.proofs.Common.{◌≡◌, ℕ, ◌<◌, length}
use Rattle.xn_model.specs.Lists.{at}
use Rattle.xn_simple.proofs.reading.numbers_of.Given as goal

-- the first edges have their places
abbrev pub invariant-loop-i : goal.invariant-loop-i
invariant-loop-i l = record {
  fits : length l.numbers.items ≡ l.count;
  held : (x : ℕ) → x < l.i → at l.numbers.items (at l.edges x) ≡ x;
}
