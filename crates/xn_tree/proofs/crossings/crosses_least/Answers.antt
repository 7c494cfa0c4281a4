use Rattle.std.proofs.Common.{◌≡◌, ◌+◌, ◌<◌, ◌≤◌, length, ap, arith, subst}
use Rattle.std.specs.Prelude.{pos, ◌+ℤ◌}
use Rattle.std.proofs.lemmas.Int.{ints}
use Rattle.xn_kinds.specs.Row.{Values}
use Rattle.xn_kinds.specs.Bound.{IsLeastOver}
use Rattle.xn_kinds.specs.State.{InBox}
use Rattle.xn_tree.specs.Leaf.{all_crosses, cross_value, crosses_from, crosses_with, each_pair, state_in}
use Rattle.xn_tree.proofs.Least.{least_of_one, moves_join, moves_same}
use Rattle.xn_tree.proofs.Pairs.{crosses_from-first, crosses_from-ignores, edges_from-none}
use Rattle.xn_tree.proofs.crossings.crosses_least.Goals as goal

pub loop-e-preserved : goal.loop-e-preserved
loop-e-preserved c = record {
  small = (omega (arith, ints, c.partners_least-sum.ensures.small), omega (arith, ints, c.partners_least-sum.ensures.small));
  least =
      let leaf = c.args.leaf.now in
      let e = c.loop-e.e in
      let from = crosses_from leaf.graph.now leaf.rows.now leaf.parts.now leaf.d in
      let more = λ (v : Values). crosses_with leaf.graph.now leaf.rows.now leaf.parts.now leaf.d e (e + 1) v +ℤ from (e + 1) v in
      let below : e < length leaf.graph.now.ends = omega (arith, c.edges-e-end.ensures.value) in
      let first = c.partners_least-sum.ensures.least (from (e + 1)) (crosses_from-ignores leaf.graph.now leaf.rows.now leaf.parts.now leaf.d e) in
      moves_join (state_in leaf) (from (e + 1)) more (all_crosses leaf) c.partners_least-sum.result _ _ first
      (moves_same (state_in leaf) more (from e) (all_crosses leaf) _
      (λ v. omega (arith, ints, crosses_from-first leaf.graph.now leaf.rows.now leaf.parts.now leaf.d e v below)) c.loop-e.invariant.least)
      (omega (arith, ints, c.partners_least-sum.ensures.small));
}

pub returns-clause-least : goal.returns-clause-least
returns-clause-least c =
    let leaf = c.args.leaf.now in
    let e = c.loop-e.e in
    let from = crosses_from leaf.graph.now leaf.rows.now leaf.parts.now leaf.d in
    let past : length leaf.graph.now.ends ≤ e = omega (arith, c.edges-e-end.ensures.value) in
    let none : (v : Values) → from e v ≡ pos 0 = λ v. ap (each_pair (cross_value leaf.graph.now leaf.rows.now leaf.parts.now leaf.d v)) (edges_from-none leaf.graph.now e past) in
    let least = c.loop-e.invariant.least (pos 0) (least_of_one (state_in leaf) (from e) (pos 0) none) in
    subst (IsLeastOver (InBox (state_in leaf)) (all_crosses leaf)) (omega (arith, ints)) least
