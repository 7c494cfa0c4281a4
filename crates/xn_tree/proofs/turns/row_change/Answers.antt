use Rattle.std.proofs.Common.{◌≡◌, ◌+◌, ◌*◌, ◌<◌, ◌≤◌, ◌∙◌, ℕ, add-one, ap, arith, get_or, length, refl, subst, sym, take}
use Rattle.std.specs.Prelude.{pos, nat_eq, ◌-ℤ◌}
use Rattle.std.specs.List.{IsDistinct}
use Rattle.std.proofs.lemmas.Int.{ints}
use Rattle.std.proofs.lemmas.List.{take_all}
use Rattle.xn_model.specs.Lists.{total}
use Rattle.xn_kinds.specs.Bound.{row_at}
use Rattle.xn_kinds.specs.Row.{Values, orders_of, turns_value}
use Rattle.xn_tree.specs.Leaf.{IsRowOf, first_parts, state_in, turns_along, turns_sum}
use Rattle.xn_tree.proofs.Additions.{each_taken, earlier_out, few_edges, others_weigh, short_list}
use Rattle.xn_tree.proofs.Edges.{order_at-found, rising_distinct}
use Rattle.xn_tree.proofs.Least.{moves_join, moves_to}
use Rattle.xn_tree.proofs.Neighbours.{total-take}
use Rattle.xn_tree.proofs.Weights.{all_weigh}
use Rattle.xn_tree.proofs.turns.row_change.Goals as goal

pub list_change-sum-requires-clause-no_repeats : goal.list_change-sum-requires-clause-no_repeats
list_change-sum-requires-clause-no_repeats c =
    let row = c.args.row.now in
    let i = c.loop-i.i in
    let e = get_or row.edges i 0 in
    let is_edges = c.as_slice-edges.ensures in
    let low : i < length row.edges = omega (arith, ap (length {A = ℕ}) is_edges) in
    let list : c.at.result.now ≡ orders_of row e = c.at.ensures ∙ order_at-found row.edges row.orders i e c.requires.row.orders.edge_list.rise c.requires.row.lists_fit (low, refl) in
    subst (IsDistinct nat_eq) (sym list) (c.requires.row.orders.no_repeats e)

pub list_change-sum-requires-clause-short : goal.list_change-sum-requires-clause-short
list_change-sum-requires-clause-short c =
    let row = c.args.row.now in
    let i = c.loop-i.i in
    let e = get_or row.edges i 0 in
    let is_edges = c.as_slice-edges.ensures in
    let low : i < length row.edges = omega (arith, ap (length {A = ℕ}) is_edges) in
    let list : c.at.result.now ≡ orders_of row e = c.at.ensures ∙ order_at-found row.edges row.orders i e c.requires.row.orders.edge_list.rise c.requires.row.lists_fit (low, refl) in
    omega (arith, ap (length {A = ℕ}) list, short_list c.args.leaf.now.graph.now row c.requires.row c.requires.leaf.few_edges e)

pub overflow_add-sum : goal.overflow_add-sum
overflow_add-sum c =
    let row = c.args.row.now in
    let few : length row.edges ≤ 1000 = few_edges c.args.leaf.now.graph.now row c.requires.row c.requires.leaf.few_edges in
    omega (arith, ints, few, ap (length {A = ℕ}) c.as_slice-edges.ensures, c.list_change-sum.ensures.small)

pub loop-i-preserved : goal.loop-i-preserved
loop-i-preserved c =
    let leaf = c.args.leaf.now in
    let row = c.args.row.now in
    let g = leaf.graph.now in
    let i = c.loop-i.i in
    let edges = c.as_slice-edges.result.now in
    let is_edges : edges ≡ row.edges = c.as_slice-edges.ensures in
    let few : length row.edges ≤ 1000 = few_edges g row c.requires.row c.requires.leaf.few_edges in
    let long : length edges ≡ length row.edges = ap (length {A = ℕ}) is_edges in
    let low : i < length row.edges = omega (arith, long) in
    let e = get_or edges i 0 in
    let same : get_or row.edges i 0 ≡ e = sym (ap (λ xs. get_or xs i 0) is_edges) in
    let list : c.at.result.now ≡ orders_of row e =
    c.at.ensures ∙ order_at-found row.edges row.orders i e c.requires.row.orders.edge_list.rise c.requires.row.lists_fit (low, same) in
    let m = c.args.m in
    let s = state_in leaf in
    let rows = leaf.rows.now in
    let parts = first_parts leaf c.args.before in
    let from = turns_sum rows parts in
    let along = λ (v : Values) (x : ℕ). turns_along v x (orders_of row x) in
    let taken = λ (k : ℕ) (v : Values). from v -ℤ pos (m * total (along v) (take k edges)) in
    let r = c.list_change-sum.result in
    let each = each_taken (λ p. IsRowOf g (row_at rows p.0)) leaf.parts.now c.args.before c.requires.leaf.rows in
    let distinct : IsDistinct nat_eq edges = subst (IsDistinct nat_eq) (sym is_edges) (rising_distinct row.edges c.requires.row.orders.edge_list.rise) in
    let weighs = others_weigh s rows parts e m from (all_weigh g s rows parts e each) (orders_of row) (take i edges) (earlier_out edges i distinct (omega (arith, low, long))) in
    let step = c.list_change-sum.ensures.least (taken i) weighs in
    record {
      small = (omega (arith, ints, few, long, c.list_change-sum.ensures.small), omega (arith, ints, few, long, c.list_change-sum.ensures.small));
      least =
          moves_join s from (taken i) (taken (i + 1)) _ r _ c.loop-i.invariant.least
          (moves_to s (taken i) (λ v. taken i v -ℤ pos (m * turns_along v e c.at.result.now)) (taken (i + 1)) r
          (λ v box.
          let next : total (along v) (take (i + 1) edges) ≡ total (along v) (take i edges) + turns_along v e c.at.result.now =
          ap (λ k. total (along v) (take k edges)) (add-one i) ∙ total-take (along v) edges i 0 (omega (arith, low, long))
          ∙ ap (λ xs. total (along v) (take i edges) + turns_along v e xs) (sym list) in
          let scaled : m * total (along v) (take (i + 1) edges) ≡ m * (total (along v) (take i edges) + turns_along v e c.at.result.now) = ap (λ x. m * x) next in
          omega (arith, ints, scaled)) step)
          (omega (arith, ints, few, long, c.list_change-sum.ensures.small));
    }

pub returns-clause-least : goal.returns-clause-least
returns-clause-least c =
    let leaf = c.args.leaf.now in
    let row = c.args.row.now in
    let edges = c.as_slice-edges.result.now in
    let i = c.loop-i.i in
    let all : take i edges ≡ row.edges = take_all i edges (omega arith) ∙ c.as_slice-edges.ensures in
    let from = turns_sum leaf.rows.now (first_parts leaf c.args.before) in
    moves_to (state_in leaf) from (λ v. from v -ℤ pos (c.args.m * total (λ x. turns_along v x (orders_of row x)) (take i edges)))
    (λ v. from v -ℤ pos (c.args.m * turns_value row v)) _
    (λ v box. ap (λ xs. from v -ℤ pos (c.args.m * total (λ x. turns_along v x (orders_of row x)) xs)) all) c.loop-i.invariant.least

pub returns-clause-small : goal.returns-clause-small
returns-clause-small c =
    let row = c.args.row.now in
    let few : length row.edges ≤ 1000 = few_edges c.args.leaf.now.graph.now row c.requires.row c.requires.leaf.few_edges in
    let long = ap (length {A = ℕ}) c.as_slice-edges.ensures in
    (omega (arith, ints, few, long, c.loop-i.invariant.small), omega (arith, ints, few, long, c.loop-i.invariant.small))
