use Rattle.std.proofs.Common.{◌<◌, ◌≤◌, ap, arith, false, inl, inr, length, refl, subst, sym}
use Rattle.std.proofs.lemmas.Bool.{both_ways}
use Rattle.std.proofs.lemmas.List.FromFn.{length-range_with_len}
use Rattle.std.proofs.lemmas.Result.{IfOk-weaker}
use Rattle.xn_brute.specs.Found.{CanList}
use Rattle.xn_brute.proofs.Tries.{cross_from_ended, cross_from_list, list_from_cross, list_none, listed_all, ways_on}
use Rattle.xn_brute.proofs.searches.+orders.Goals as goal

pub list_from-returns-then-branch : goal.list_from-returns-then-branch
list_from-returns-then-branch t c =
    let g = c.args.search.now.graph.now in
    let k = c.args.search.now.most in
    let ended = subst (CanList g k c.args.left) c.in_ok-with_list.ensures (c.in_ok-lists_from.ensures.0 c.if-branch.true) in
    (λ yes. cross_from_ended g k c.args.left c.args.lists.now c.args.list.now ended, λ can. refl)

pub list_from-returns-then-left-eq0 : goal.list_from-returns-then-left-eq0
list_from-returns-then-left-eq0 t c = (
  λ no. absurd (both_ways false refl no),
  λ can.
      let g = c.args.search.now.graph.now in
      let k = c.args.search.now.most in
      let n = length g.ends in
      let lacks : length c.args.lists.now < n = omega (arith, c.requires.lacks, ap length c.requires.edges, length-range_with_len 0 n) in
      elim (ways_on g k c.args.left c.args.lists.now c.args.list.now lacks can) [
        | inl ended ↦ absurd (both_ways _ c.if-branch.false (c.in_ok-lists_from.ensures.1 (subst (CanList g k c.args.left) (sym c.in_ok-with_list.ensures) ended)))
        | inr on ↦ absurd (omega (arith, on.1.some))
      ],
)

pub list_from-returns : goal.list_from-returns
list_from-returns t c = (
  λ no. absurd (both_ways false refl no),
  λ can.
      let g = c.args.search.now.graph.now in
      let k = c.args.search.now.most in
      let n = length g.ends in
      let edges = ap length c.requires.edges in
      let long = length-range_with_len 0 n in
      let lacks : length c.args.lists.now < n = omega (arith, c.requires.lacks, edges, long) in
      elim (ways_on g k c.args.left c.args.lists.now c.args.list.now lacks can) [
        | inl ended ↦ absurd (both_ways _ c.if-branch.false (c.in_ok-lists_from.ensures.1 (subst (CanList g k c.args.left) (sym c.in_ok-with_list.ensures) ended)))
        | inr on ↦ absurd (c.loop-f.invariant on.0 (omega (arith, on.1.below, edges, long)) on.1)
      ],
)

pub lists_from-returns-then-len-search : goal.lists_from-returns-then-len-search
lists_from-returns-then-len-search t c =
    let g = c.args.search.now.graph.now in
    let k = c.args.search.now.most in
    let n = length g.ends in
    let full : n ≤ length c.args.lists.now = omega (arith, ap length c.requires.edges, length-range_with_len 0 n) in
    IfOk-weaker c.are_drawn.result _ _ (λ yes ensures. (
      λ is. list_none g k c.args.left c.args.lists.now (ensures.0 is),
      λ can. ensures.1 (listed_all g k c.args.left c.args.lists.now full can),
    )) c.are_drawn.ensures

pub lists_from-returns : goal.lists_from-returns
lists_from-returns t c =
    let g = c.args.search.now.graph.now in
    let k = c.args.search.now.most in
    let n = length g.ends in
    let lacks : length c.args.lists.now < n = omega (arith, ap length c.requires.edges, length-range_with_len 0 n) in
    IfOk-weaker c.list_from.result _ _ (λ yes ensures. (
      λ is. list_from_cross g k c.args.left c.args.lists.now (ensures.0 is),
      λ can. ensures.1 (cross_from_list g k c.args.left c.args.lists.now lacks can),
    )) c.list_from.ensures
