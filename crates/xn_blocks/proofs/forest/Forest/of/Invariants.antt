use Rattle.std.proofs.Common.{ℕ, ◌<◌}
use Rattle.xn_blocks.specs.Growth.{AllDone, AreFound, IsFound, lists_in}
use Rattle.xn_blocks.proofs.forest.Forest.of.Given as goal

abbrev pub invariant-loop-root : goal.invariant-loop-root
invariant-loop-root l = record {
  found : AreFound l.web (lists_in l.forest);
  done : AllDone l.web (lists_in l.forest);
  all : (v : ℕ) → v < l.root → IsFound l.web (lists_in l.forest) v;
}
