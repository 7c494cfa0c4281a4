use Rattle.std.proofs.Common.{drop}
use Rattle.xn_insert.proofs.Coming.{MayCome}
use Rattle.xn_insert.proofs.Grown.{GrownTo}
use Rattle.xn_insert.proofs.loose.Loose.come_in.Given as goal

abbrev pub invariant-loop-d : goal.invariant-loop-d
invariant-loop-d l = record {
  may : MayCome l.graph l.fn.self l.e l.route.from l.route.darts.items l.route.to;
  grown : GrownTo l.graph l.fn.self l.e l.map l.from l.to l.cuts.items l.own.items (drop l.d-index l.route.darts.items) l.d-index;
}
