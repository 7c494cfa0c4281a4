use Rattle.std.proofs.Common.{◌≡◌, ℕ, ◌<◌, length}
use Rattle.xn_map.specs.Forest.{IsForest, root_of}
use Rattle.xn_map.proofs.components.root.Given as goal

abbrev pub invariant-loop-parents : goal.invariant-loop-parents
invariant-loop-parents l = record {
  forest : IsForest l.parents;
  node : l.w < length l.parents;
  root : root_of l.parents l.w ≡ root_of l.initial.parents l.v;
  kept : (x : ℕ) → x < length l.initial.parents → root_of l.parents x ≡ root_of l.initial.parents x;
}

abbrev pub decreases-loop-parents : goal.decreases-loop-parents
decreases-loop-parents l = l.w
