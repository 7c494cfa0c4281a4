use Rattle.std.proofs.Common.{◌≡◌, ◌+◌, ◌-◌, ◌*◌, ◌<◌, ◌≤◌, ℕ, ap, arith, get_or, length, take}
use Rattle.std.specs.Prelude.{pos, ◌-ℤ◌}
use Rattle.std.proofs.lemmas.List.{take_all}
use Rattle.std.proofs.lemmas.Int.{ints}
use Rattle.xn_kinds.specs.Row.{Values, literal}
use Rattle.xn_tree.specs.Leaf.{first_parts, state_in, turns_along}
use Rattle.xn_tree.proofs.Additions.{neighbours_apart, still_weighs, taken_more}
use Rattle.xn_tree.proofs.Least.{moves_join, moves_to}
use Rattle.xn_tree.proofs.turns.list_change.Goals as goal

pub turn_change-sum-requires-clause-two : goal.turn_change-sum-requires-clause-two
turn_change-sum-requires-clause-two c = neighbours_apart c.args.list.now c.loop-i.i c.requires.no_repeats (omega arith) (omega arith)

pub loop-i-preserved : goal.loop-i-preserved
loop-i-preserved c = record {
  within = omega arith;
  small = (omega (arith, ints, c.turn_change-sum.ensures.small), omega (arith, ints, c.turn_change-sum.ensures.small));
  least = λ number weighs.
      let leaf = c.args.leaf.now in
      let list = c.args.list.now in
      let i = c.loop-i.i in
      let e = c.args.e in
      let m = c.args.m in
      let s = state_in leaf in
      let rows = leaf.rows.now in
      let parts = first_parts leaf c.args.before in
      let first : 1 ≤ i = omega arith in
      let low : i < length list = omega arith in
      let taken = λ (k : ℕ) (v : Values). number v -ℤ pos (m * turns_along v e (take k list)) in
      let r = c.turn_change-sum.result in
      let step = c.turn_change-sum.ensures.least (taken i) (still_weighs s rows parts e m number weighs list i c.requires.no_repeats first low) in
      moves_join s number (taken i) (taken (i + 1)) _ r _ (c.loop-i.invariant.least number weighs)
      (moves_to s (taken i) (λ v. taken i v -ℤ pos (m * (1 - literal v e (get_or list (i - 1) 0) (get_or list i 0)))) (taken (i + 1)) r
      (λ v box. taken_more s rows parts e m number weighs list i c.requires.no_repeats first low v) step)
      (omega (arith, ints, c.turn_change-sum.ensures.small));
}

pub returns-clause-least : goal.returns-clause-least
returns-clause-least c = λ number weighs.
    let leaf = c.args.leaf.now in
    let list = c.args.list.now in
    let i = c.loop-i.i in
    let all : take i list ≡ list = take_all i list (omega arith) in
    moves_to (state_in leaf) number (λ v. number v -ℤ pos (c.args.m * turns_along v c.args.e (take i list)))
    (λ v. number v -ℤ pos (c.args.m * turns_along v c.args.e list)) _
    (λ v box. ap (λ xs. number v -ℤ pos (c.args.m * turns_along v c.args.e xs)) all) (c.loop-i.invariant.least number weighs)
