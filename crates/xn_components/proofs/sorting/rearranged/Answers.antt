use Rattle.std.proofs.Common.{◌≡◌, ℕ, List, Err, length, sym, ap, subst, ◌∙◌, arith}
use Rattle.xn_model.specs.Graph.{Graph}
use Rattle.xn_model.specs.Lists.{at}
use Rattle.xn_map.specs.Listed.{map_of}
use Rattle.xn_map.specs.Rotation.{IsRotationFlaw}
use Rattle.xn_map.proofs.Rotations.{flaws_are_no_maps}
use Rattle.xn_components.specs.Ranks.{IsRanking, Renames}
use Rattle.xn_components.proofs.Renamed.{flat_renamed, ranking_of, rearranged_is}
use Rattle.xn_components.proofs.sorting.rearranged.Goals as goal

pub renamed-requires-clause-ranking : goal.renamed-requires-clause-ranking
renamed-requires-clause-ranking c =
    let web = c.args.web.now in
    let order = c.args.order.now in
    let list = c.args.list.now in
    subst (IsRanking order) (sym c.deref.ensures.value)
    (ranking_of web order list c.in_ok-rank.rank.items c.requires.laid.apart c.requires.apart c.in_ok-rank.ensures.ranks c.requires.as_many c.requires.same)

pub returns-in-Ok : goal.returns-in-Ok
returns-in-Ok c =
    let web = c.args.web.now in
    let order = c.args.order.now in
    let list = c.args.list.now in
    let next = c.args.next.now in
    let turns = c.in_ok-turns.turns.items in
    let names = subst (λ r. Renames order r next turns) c.deref.ensures.value c.in_ok-turns.ensures in
    let is = c.in-Ok.ensures.ok ∙ ap (λ w. map_of w c.deref-2.result.now) c.in_ok-listed.ensures.web ∙ ap (map_of _) c.deref-2.ensures.value in
    rearranged_is web order list c.in_ok-rank.rank.items c.requires.laid.apart c.requires.apart c.in_ok-rank.ensures.ranks c.requires.as_many c.requires.same
    next turns c.requires.laid names c.transfers.ensures.inverses c.transfers.ensures.undoing c.renumbering.ensures.map c.renumbering.ensures.flat c.in-Ok.map is

pub unreachable-requires-in-Err-Rotation : goal.unreachable-requires-in-Err-Rotation
unreachable-requires-in-Err-Rotation c =
    let web = c.args.web.now in
    let order = c.args.order.now in
    let list = c.args.list.now in
    let next = c.args.next.now in
    let turns = c.in_ok-turns.turns.items in
    let names = subst (λ r. Renames order r next turns) c.deref.ensures.value c.in_ok-turns.ensures in
    let flat = flat_renamed web order list c.in_ok-rank.rank.items c.requires.laid.apart c.requires.apart c.in_ok-rank.ensures.ranks c.requires.as_many c.requires.same
    next turns c.requires.laid names c.transfers.ensures.inverses c.transfers.ensures.undoing c.renumbering.ensures.map c.renumbering.ensures.flat in
    let d = c.in-Err-Rotation.field-0-0 in
    let flaw = (c.in-Err-Rotation.ensures.rotation d (ap (λ e. Err e) c.in-Err-Rotation.field-0-is)).1 in
    let P : Graph → List ℕ → Type 0 = λ w xs. IsRotationFlaw w.ends (at xs) d in
    let here = subst (λ w. P w turns) c.in_ok-listed.ensures.web (subst (P c.in_ok-listed.listed) c.deref-2.ensures.value flaw) in
    flaws_are_no_maps web.nodes _ (at turns) d here flat.is_map
