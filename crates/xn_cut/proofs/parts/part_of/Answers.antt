use Rattle.std.proofs.Common.{◌<◌, ◌∙◌, ap, length, subst, sym}
use Rattle.std.specs.Prelude.{All}
use Rattle.xn_cut.specs.Kept.{lists_kept}
use Rattle.xn_cut.proofs.Kept.{kept_below, part_is}
use Rattle.xn_cut.proofs.parts.part_of.Goals as goal

pub kept_lists-requires : goal.kept_lists-requires
kept_lists-requires c =
    let orders = c.args.orders.now in
    subst (All (λ e. e < length orders)) (sym c.as_slice.ensures.value)
    (kept_below c.args.graph.now orders c.args.kept.now c.in_ok-edges.edges.items c.requires.lists c.in_ok-edges.ensures)

pub returns : goal.returns
returns c =
    let orders = c.args.orders.now in
    let kept = c.args.kept.now in
    part_is c.args.graph.now orders kept c.requires.lists c.requires.orders c.in_ok-edges.edges.items c.in_ok-lists.lists c.in_ok-edges.ensures
    (c.in_ok-lists.ensures ∙ ap (lists_kept orders kept) c.as_slice.ensures.value)
