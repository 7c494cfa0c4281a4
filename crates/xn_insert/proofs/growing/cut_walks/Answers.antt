use Rattle.std.proofs.Common.{ℕ, ◌*◌, ◌<◌, ◌≤◌, [], ◌∷◌, List, length, map, set, vec_items, sym, ap, subst, ◌∙◌, arith}
use Rattle.std.proofs.lemmas.List.{map-append, map-set, take_all}
use Rattle.xn_list.specs.Lists.{lists_of}
use Rattle.xn_model.specs.Lists.{at}
use Rattle.xn_insert.specs.Cuts.{AreCut, cut_darts}
use Rattle.xn_insert.proofs.CutLists.{are_cut, walks_cut-more}
use Rattle.xn_insert.proofs.growing.cut_walks.Goals as goal

pub cut_walk-requires-clause-within : goal.cut_walk-requires-clause-within
cut_walk-requires-clause-within c =
    subst (λ (w : List ℕ). (i : ℕ) → i < length w → at w i < 2 * length c.args.cuts.now) (sym c.at.ensures) (c.requires.within c.loop-x.x)

pub loop-x-preserved : goal.loop-x-preserved
loop-x-preserved c =
    let cuts = c.args.cuts.now in
    let walks = c.args.walks.now in
    let x = c.loop-x.x in
    let low : x < length walks = omega arith in
    let walk = c.in_ok-cut_walk.field-0 in
    ap lists_of c.in_ok-push.ensures.items
    ∙ map-append vec_items c.loop-x.lists.items (walk ∷ [])
    ∙ walks_cut-more cuts walks (lists_of c.loop-x.lists.items) x walk.items low c.loop-x.invariant (c.in_ok-cut_walk.ensures ∙ ap (cut_darts cuts) c.at.ensures)

pub returns : goal.returns
returns c =
    let cuts = c.args.cuts.now in
    let walks = c.args.walks.now in
    let e = c.args.e in
    let own = c.args.own in
    let past : length walks ≤ c.loop-x.x = omega arith in
    let all = c.loop-x.invariant ∙ ap (map (cut_darts cuts)) (take_all c.loop-x.x walks past) in
    let is = c.new.ensures ∙ map-set vec_items c.loop-x.lists.items e own ∙ ap (λ ws. set ws e own.items) all in
    subst (λ ws. AreCut cuts e own.items walks ws) (sym is) (are_cut cuts e own.items walks c.requires.edge)
