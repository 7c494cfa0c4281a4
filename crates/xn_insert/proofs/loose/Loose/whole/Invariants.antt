use Rattle.std.proofs.Common.{◌≡◌, ℕ, ◌<◌, true}
use Rattle.xn_insert.specs.ListedLoose.{has_dart, walk_of}
use Rattle.xn_insert.proofs.loose.Loose.whole.Given as goal

-- the edges so far are in
abbrev pub invariant-loop-e : goal.invariant-loop-e
invariant-loop-e l = (x : ℕ) → x < l.e → has_dart (walk_of l.self.walks x) ≡ true
