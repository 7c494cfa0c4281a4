use Rattle.std.proofs.Common.{◌≡◌, ◌++◌, IfOk, refl, ap, subst, ◌∙◌, arith}
use Rattle.std.specs.List.{range_with_len}
use Rattle.std.proofs.lemmas.Iterator.{items_from_collect, YieldsList-from_range}
use Rattle.xn_planar.proofs.shrinking.with_front.Goals as goal

pub returns : goal.returns
returns c =
    let front = c.args.front in
    let some = items_from_collect c.collect.result c.collect.ensures.ran (YieldsList-from_range 0 front front refl (omega arith)) in
    let first = subst (λ r. IfOk r (λ v. v.items ≡ range_with_len 0 front)) c.in_ok-all.was some in
    c.in_ok-extend_from_slice.ensures.items ∙ ap (λ xs. xs ++ c.args.list.now) first
