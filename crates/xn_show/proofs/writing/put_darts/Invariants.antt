use Rattle.std.proofs.Common.{◌≡◌, ◌++◌, ◌<◌, length}
use Rattle.xn_model.specs.Lists.{at}
use Rattle.xn_model.specs.Permutation.{iterate, walk}
use Rattle.xn_show.specs.Text.{spaced}
use Rattle.xn_show.proofs.writing.put_darts.Given as goal

-- the darts so far stand at the end
abbrev pub invariant-loop-i : goal.invariant-loop-i
invariant-loop-i l = record {
  text : l.to.items ≡ l.fn.to.items ++ spaced (walk (at l.next) l.i (at l.star 0));
  dart : l.d ≡ iterate (at l.next) l.i (at l.star 0);
  inside : l.i < length l.star → l.d < length l.next;
}
