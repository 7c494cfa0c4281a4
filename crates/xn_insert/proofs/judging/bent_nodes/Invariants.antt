use Rattle.xn_insert.specs.Judged.{AreBends}
use Rattle.xn_insert.proofs.judging.bent_nodes.Given as goal

abbrev pub invariant-loop-e : goal.invariant-loop-e
invariant-loop-e l = AreBends l.map l.walks l.e l.bends.items
