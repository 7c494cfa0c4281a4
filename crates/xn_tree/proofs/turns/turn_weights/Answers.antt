use Rattle.std.proofs.Common.{◌≡◌, ◌+◌, ◌*◌, ◌<◌, ◌∙◌, ℕ, add-one, ap, arith, get_or, length, sym, take}
use Rattle.std.proofs.lemmas.List.{get_or_default}
use Rattle.xn_model.specs.Lists.{total}
use Rattle.xn_kinds.specs.Bound.{row_at}
use Rattle.xn_kinds.specs.Row.{orders_of}
use Rattle.xn_tree.specs.Leaf.{turn_term, turn_weight}
use Rattle.xn_tree.proofs.Neighbours.{total-take}
use Rattle.xn_tree.proofs.turns.turn_weights.Goals as goal

pub loop-i-preserved : goal.loop-i-preserved
loop-i-preserved c =
    let leaf = c.args.leaf.now in
    let parts = leaf.parts.now in
    let rows = leaf.rows.now in
    let i = c.loop-i.i in
    let low : i < length parts = omega arith in
    let p = get_or parts i (0, 0) in
    let row = c.index-leaf-number.result in
    let row_is : row_at rows p.0 ≡ get_or rows p.0 row = get_or_default rows p.0 _ row (c.requires.leaf.are_rows i (0, 0) low) in
    let term = λ (x : ℕ) (q : ℕ × ℕ). q.1 * turn_term (orders_of (row_at rows q.0) c.args.e) c.args.f c.args.g x in
    let next : (x : ℕ) → turn_weight rows (take (i + 1) parts) c.args.e c.args.f c.args.g x ≡ turn_weight rows (take i parts) c.args.e c.args.f c.args.g x + term x p =
    λ x. ap (λ k. total (term x) (take k parts)) (add-one i) ∙ total-take (term x) parts i (0, 0) low in
    let zero : c.weighed-zero.result ≡ term 0 p =
    c.weighed-zero.ensures.weighed ∙ ap (λ t. p.1 * t) c.turn_terms-rises.ensures.zero ∙ ap (λ r. p.1 * turn_term (orders_of r c.args.e) c.args.f c.args.g 0) (sym row_is) in
    let one : c.weighed-one.result ≡ term 1 p =
    c.weighed-one.ensures.weighed ∙ ap (λ t. p.1 * t) c.turn_terms-rises.ensures.one ∙ ap (λ r. p.1 * turn_term (orders_of r c.args.e) c.args.f c.args.g 1) (sym row_is) in
    record {
      small_zero = omega (arith, c.weighed-zero.ensures.small);
      small_one = omega (arith, c.weighed-one.ensures.small);
      zero = omega (arith, next 0, zero);
      one = omega (arith, next 1, one);
    }
