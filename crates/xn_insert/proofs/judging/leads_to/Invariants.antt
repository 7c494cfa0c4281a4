use Rattle.std.proofs.Common.{drop}
use Rattle.xn_model.specs.Map.{WalksTo}
use Rattle.xn_insert.proofs.judging.leads_to.Given as goal

-- the walk leads to v where what is left of it does
abbrev pub invariant-loop-d : goal.invariant-loop-d
invariant-loop-d l = record {
  back : WalksTo l.map.web.ends l.node (drop l.d-index l.walk) l.v → WalksTo l.map.web.ends l.u l.walk l.v;
  on : WalksTo l.map.web.ends l.u l.walk l.v → WalksTo l.map.web.ends l.node (drop l.d-index l.walk) l.v;
}
