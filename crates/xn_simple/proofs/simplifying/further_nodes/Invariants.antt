use Rattle.std.proofs.Common.{◌≡◌, ℕ, ◌<◌, ◌≤◌, true, false, length}
use Rattle.xn_map.specs.Marks.{is_marked}
use Rattle.xn_simple.proofs.simplifying.further_nodes.Given as goal

abbrev pub invariant-loop-v : goal.invariant-loop-v
invariant-loop-v l = record {
  fits : length l.four.items ≡ l.nodes;
  low : (x : ℕ) → x < l.v → is_marked l.four.items x ≡ false;
  high : (x : ℕ) → l.v ≤ x → x < l.nodes → is_marked l.four.items x ≡ true;
}
