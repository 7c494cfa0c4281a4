use Rattle.std.proofs.Common.{◌≡◌, ◌+◌, ◌*◌, ◌<◌, ◌∙◌, [], ap, arith, get_or, length, refl, subst, take}
use Rattle.std.specs.Prelude.{pos, ◌+ℤ◌, ◌-ℤ◌}
use Rattle.std.proofs.lemmas.Int.{ints}
use Rattle.std.proofs.lemmas.List.{get_or_default}
use Rattle.xn_kinds.specs.Bound.{row_at, IsLeastOver}
use Rattle.xn_kinds.specs.Row.{Values, turns_value}
use Rattle.xn_kinds.specs.State.{InBox}
use Rattle.xn_tree.specs.Leaf.{state_in, turns_sum}
use Rattle.xn_tree.proofs.Additions.{least_shift, turns_of-more}
use Rattle.xn_tree.proofs.Least.{least_of_one}
use Rattle.xn_tree.proofs.turns.turns_least.Goals as goal

pub loop-i-init : goal.loop-i-init
loop-i-init c =
    let leaf = c.args.leaf.now in
    record {
      small = (omega (arith, ints), omega (arith, ints));
      least = least_of_one (state_in leaf) (turns_sum leaf.rows.now []) (pos 0) (λ v. refl);
    }

pub loop-i-preserved : goal.loop-i-preserved
loop-i-preserved c =
    let leaf = c.args.leaf.now in
    let rows = leaf.rows.now in
    let parts = leaf.parts.now in
    let i = c.loop-i.i in
    let low : i < length parts = omega arith in
    let p = get_or parts i (0, 0) in
    let row = get_or rows p.0 c.index-leaf-number.result in
    let row_is : row_at rows p.0 ≡ row = get_or_default rows p.0 _ c.index-leaf-number.result (c.requires.are_rows i (0, 0) low) in
    let added = λ (v : Values). turns_sum rows (take i parts) v -ℤ pos (p.1 * turns_value row v) in
    let moved = c.row_change-sum.ensures.least _ c.loop-i.invariant.least in
    let all = least_shift (state_in leaf) added (turns_sum rows (take (i + 1) parts)) _ (pos p.1)
    (λ v. turns_of-more rows parts i v low ∙ ap (λ r. (turns_sum rows (take i parts) v -ℤ pos (p.1 * turns_value r v)) +ℤ pos p.1) row_is) moved in
    record {
      small = (omega (arith, ints, c.row_change-sum.ensures.small, c.from-sum.ensures), omega (arith, ints, c.row_change-sum.ensures.small, c.from-sum.ensures));
      least = subst (IsLeastOver (InBox (state_in leaf)) (turns_sum rows (take (i + 1) parts))) (omega (arith, ints, c.row_change-sum.ensures.small, c.from-sum.ensures)) all;
    }
