use Rattle.std.proofs.Common.{ℕ, ◌*◌, ◌-◌, List, length, take, drop, get_or, ap, sym, ◌∙◌, subst}
use Rattle.std.specs.List.{range_with_len}
use Rattle.std.proofs.lemmas.Result.{IfOk-weaker}
use Rattle.xn_model.specs.Insertion.{GrowsFromFirst, ReachesEnd}
use Rattle.xn_brute.proofs.Growing.{first_and_rest, first_from_reaches, growing_first, reaches_from_first}
use Rattle.xn_brute.proofs.extensions.extends_by_search.Goals as goal

pub extends-requires : goal.extends-requires
extends-requires c =
    let list = c.args.list.now in
    let whole = first_and_rest list c.in-len1-up.len_at_least in
    let grows = subst (GrowsFromFirst c.args.web.now.ends) whole c.requires in
    let next = c.deref.ensures.value ∙ c.in_ok-next-in-len1-up.ensures ∙ ap (λ m. range_with_len 0 (2 * m)) c.segments.ensures.value in
    growing_first c.args.web.now (get_or list 0 0) (take (length list - 1) (drop 1 list)) c.deref.result.now grows c.segments.ensures.limited.few_segments next

pub returns-in_ok-next-in-len1-up : goal.returns-in_ok-next-in-len1-up
returns-in_ok-next-in-len1-up c =
    let list = c.args.list.now in
    let web = c.args.web.now in
    let rest = take (length list - 1) (drop 1 list) in
    let whole = first_and_rest list c.in-len1-up.len_at_least in
    let grows = subst (GrowsFromFirst web.ends) whole c.requires in
    let next = c.deref.ensures.value ∙ c.in_ok-next-in-len1-up.ensures ∙ ap (λ m. range_with_len 0 (2 * m)) c.segments.ensures.value in
    let reaches : List ℕ → Type 0 = λ l. (last : ℕ → ℕ) × ReachesEnd web.ends l last in
    IfOk-weaker c.extends.result _ _ (λ yes ensures. (
      λ is. subst reaches (sym whole) (reaches_from_first web (get_or list 0 0) rest c.deref.result.now grows next (ensures.0 is)),
      λ reached. ensures.1 (first_from_reaches web (get_or list 0 0) rest c.deref.result.now grows next (subst reaches whole reached)),
    )) c.extends.ensures
