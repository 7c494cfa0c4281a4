use Rattle.std.proofs.Common.{◌≡◌, suc, ◌+◌, ◌*◌, ◌∷◌, [], ◌++◌, map, sym, ◌∙◌, ap, arith}
use Rattle.std.specs.List.{range_with_len}
use Rattle.std.proofs.lemmas.List.{map-append}
use Rattle.xn_insert.proofs.Started.{doubled, range_more}
use Rattle.xn_insert.proofs.starting.first_darts.Goals as goal

pub loop-i-preserved : goal.loop-i-preserved
loop-i-preserved c =
    let first = c.args.first in
    let i = c.loop-i.i in
    c.in_ok-push.ensures.items
    ∙ ap (λ l. l ++ 2 * (first + i) ∷ []) c.loop-i.invariant
    ∙ sym (map-append (λ x. 2 * x) (range_with_len first i) ((first + i) ∷ []))
    ∙ ap (map (λ x. 2 * x)) (sym (range_more first i))

pub returns : goal.returns
returns c =
    let long : c.loop-i.i ≡ suc c.args.more = omega arith in
    c.loop-i.invariant ∙ ap (λ k. map (λ x. 2 * x) (range_with_len c.args.first k)) long ∙ doubled c.args.first c.args.more
