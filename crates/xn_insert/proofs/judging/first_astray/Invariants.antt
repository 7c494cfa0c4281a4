use Rattle.std.proofs.Common.{ℕ, ◌<◌}
use Rattle.xn_insert.specs.Judged.{LeadsWell}
use Rattle.xn_insert.proofs.judging.first_astray.Given as goal

-- the walks of the edges so far lead well
abbrev pub invariant-loop-e : goal.invariant-loop-e
invariant-loop-e l = (x : ℕ) → x < l.e → LeadsWell l.graph l.map l.walks x
