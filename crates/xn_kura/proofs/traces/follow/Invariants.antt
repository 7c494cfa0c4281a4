use Rattle.std.proofs.Common.{◌≡◌, ◌*◌, ◌<◌, ℕ, List, length}
use Rattle.xn_kura.specs.Straight.{IsStraight, dart_from}
use Rattle.xn_kura.proofs.Tracing.{IsOnPath}
use Rattle.xn_kura.proofs.traces.follow.Given as goal

-- the dart stands on each straight path that d begins
abbrev pub invariant-loop : goal.invariant-loop
invariant-loop l = record {
  dart : l.dart < 2 * length l.web.ends;
  on : (u : ℕ) (path : List ℕ) (v : ℕ) → IsStraight l.web.ends u path v → dart_from l.web.ends u path ≡ l.d → IsOnPath l.web.ends path v l.counter l.dart l.path.items;
}
