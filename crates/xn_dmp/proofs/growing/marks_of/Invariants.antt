use Rattle.std.proofs.Common.{◌≡◌, ℕ, length, take}
use Rattle.xn_model.specs.Lists.{has}
use Rattle.xn_map.specs.Marks.{is_marked}
use Rattle.xn_dmp.proofs.growing.marks_of.Given as goal

abbrev pub invariant-loop-s : goal.invariant-loop-s
invariant-loop-s l = record {
  size : length l.marks.items ≡ l.n;
  marks : (t : ℕ) → is_marked l.marks.items t ≡ has (take l.s-index l.list) t;
}
