use Rattle.std.proofs.Common.{◌≡◌, ℕ, ◌/◌, ◌<◌}
use Rattle.xn_model.specs.Lists.{at}
use Rattle.xn_blocks.proofs.cuts.is_cut.Given as goal

abbrev pub invariant-loop-d : goal.invariant-loop-d
invariant-loop-d l = (j : ℕ) → j < l.d-index → at l.keys (at l.star j / 2) ≡ at l.keys (at l.star 0 / 2)
