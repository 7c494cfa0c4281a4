use Rattle.std.proofs.Common.{arith, ap, sym, ◌∙◌, ◌≡◌, get_or}
use Rattle.std.specs.Prelude.{pos, ◌-ℤ◌, ◌*ℤ◌}
use Rattle.std.proofs.lemmas.Int.{ints}
use Rattle.std.proofs.lemmas.List.{get_or_default}
use Rattle.xn_kinds.specs.Bound.{part_value, row_at}
use Rattle.xn_kinds.specs.Row.{value_of}
use Rattle.xn_brute.proofs.Sums.{total_ℤ-drop}
use Rattle.xn_brute.proofs.leaves.parts_value.Goals as goal

pub loop-number-preserved : goal.loop-number-preserved
loop-number-preserved c = record {
  small = (omega (arith, ints, c.weighed-sum.ensures.small), omega (arith, ints, c.weighed-sum.ensures.small));
  value = λ v fits.
      let g = c.args.leaf.now.graph.now in
      let rows = c.args.leaf.now.rows.now in
      let parts = c.args.leaf.now.parts.now in
      let i = c.loop-number.number-index in
      let p = get_or parts i (0, 0) in
      let row = c.index-leaf-number.result in
      let row_is : row_at rows p.0 ≡ get_or rows p.0 row = get_or_default rows p.0 _ row (c.requires.are_rows i (0, 0) c.loop-number-test.true) in
      let value_is : value_of g (row_at rows p.0) v ≡ c.in_ok-value.value = ap (λ r. value_of g r v) row_is ∙ c.in_ok-value.ensures.value v fits in
      let part_is : part_value g rows v p ≡ c.weighed-sum.result = ap (λ n. pos p.1 *ℤ (pos n -ℤ pos 1)) value_is ∙ sym c.weighed-sum.ensures.value in
      omega (arith, ints, c.weighed-sum.ensures.small, c.loop-number.invariant.value v fits, total_ℤ-drop (part_value g rows v) parts i (0, 0) c.loop-number-test.true, part_is);
}
