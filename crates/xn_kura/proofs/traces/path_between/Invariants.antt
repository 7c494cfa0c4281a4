use Rattle.std.proofs.Common.{◌<◌, ℕ, List}
use Rattle.xn_kura.specs.Straight.{IsStraight, dart_from}
use Rattle.xn_kura.proofs.traces.path_between.Given as goal

-- no dart so far begins such a path
abbrev pub invariant-loop-d : goal.invariant-loop-d
invariant-loop-d l = (path : List ℕ) → IsStraight l.web.ends l.u path l.v → dart_from l.web.ends l.u path < l.d → ⊥
