use Rattle.std.proofs.Common.{◌≡◌, ℕ, List, ◌++◌, drop}
use Rattle.xn_model.specs.Evidence.{LeadsTo, inner_nodes}
use Rattle.xn_kura.specs.Marks.{MarksMore}
use Rattle.xn_kura.proofs.walks.mark_inner.Given as goal

abbrev pub invariant-loop-s : goal.invariant-loop-s
invariant-loop-s l = record {
  leads : (v : ℕ) × LeadsTo l.web.ends l.at (drop l.s-index l.path) v;
  marked : (passed : List ℕ) × (inner_nodes l.web.ends l.from l.path ≡ passed ++ inner_nodes l.web.ends l.at (drop l.s-index l.path)) × MarksMore l.initial.marks passed l.marks;
}
