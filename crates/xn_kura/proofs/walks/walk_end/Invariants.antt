use Rattle.std.proofs.Common.{ℕ, drop}
use Rattle.xn_model.specs.Evidence.{LeadsTo}
use Rattle.xn_kura.proofs.walks.walk_end.Given as goal

-- the walk leads where what is left of it leads
abbrev pub invariant-loop-s : goal.invariant-loop-s
invariant-loop-s l = record {
  back : (v : ℕ) → LeadsTo l.web.ends l.at (drop l.s-index l.path) v → LeadsTo l.web.ends l.from l.path v;
  on : (v : ℕ) → LeadsTo l.web.ends l.from l.path v → LeadsTo l.web.ends l.at (drop l.s-index l.path) v;
}
