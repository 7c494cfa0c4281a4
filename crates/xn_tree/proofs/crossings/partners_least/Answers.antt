use Rattle.std.proofs.Common.{◌≡◌, ◌+◌, ◌≤◌, ℕ, length, ap, arith}
use Rattle.std.specs.Prelude.{pos, ◌+ℤ◌}
use Rattle.std.proofs.lemmas.Int.{ints}
use Rattle.xn_kinds.specs.Bound.{total_ℤ}
use Rattle.xn_kinds.specs.Row.{Values}
use Rattle.xn_tree.specs.Leaf.{cross_value, crosses_with, state_in}
use Rattle.xn_tree.proofs.Least.{moves_join, moves_same}
use Rattle.xn_tree.proofs.Pairs.{edges_from-none}
use Rattle.xn_tree.proofs.crossings.partners_least.Goals as goal

pub loop-f-preserved : goal.loop-f-preserved
loop-f-preserved c = record {
  small = (omega (arith, ints, c.part_least-sum.ensures.small), omega (arith, ints, c.part_least-sum.ensures.small));
  least = λ rest ignores.
      let leaf = c.args.leaf.now in
      let with = λ (f : ℕ) (v : Values). crosses_with leaf.graph.now leaf.rows.now leaf.parts.now leaf.d c.args.e f v +ℤ rest v in
      moves_join (state_in leaf) (with (c.loop-f.f + 1)) (with c.loop-f.f) (with (c.args.e + 1)) c.part_least-sum.result _ _
      (c.part_least-sum.ensures.least rest ignores) (c.loop-f.invariant.least rest ignores) (omega (arith, ints, c.part_least-sum.ensures.small));
}

pub returns-clause-least : goal.returns-clause-least
returns-clause-least c = λ rest ignores.
    let leaf = c.args.leaf.now in
    let with = λ (f : ℕ) (v : Values). crosses_with leaf.graph.now leaf.rows.now leaf.parts.now leaf.d c.args.e f v +ℤ rest v in
    let past : length leaf.graph.now.ends ≤ c.loop-f.f = omega (arith, c.edges-edges.ensures.value) in
    moves_same (state_in leaf) rest (with c.loop-f.f) (with (c.args.e + 1)) _
    (λ v.
    let none : crosses_with leaf.graph.now leaf.rows.now leaf.parts.now leaf.d c.args.e c.loop-f.f v ≡ pos 0 =
    ap (total_ℤ (cross_value leaf.graph.now leaf.rows.now leaf.parts.now leaf.d v c.args.e)) (edges_from-none leaf.graph.now c.loop-f.f past) in
    omega (arith, ints, none))
    (c.loop-f.invariant.least rest ignores)
