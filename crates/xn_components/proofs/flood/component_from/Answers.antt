use Rattle.std.proofs.Common.{rules, ◌≡◌, ℕ, ◌∷◌, ◌++◌, [], Bool, true, false, List, replicate, set, sym, ap, subst, ◌∙◌}
use Rattle.xn_model.specs.Lists.{at}
use Rattle.xn_components.specs.Flood.{FloodsAll, IsFlood}
use Rattle.xn_components.proofs.Flooding.{flood_done, flood_start}
use Rattle.xn_components.proofs.flood.component_from.Goals as goal

pub returns : goal.returns
returns c =
    let ends = c.args.web.now.ends in
    let old = c.args.marks.now in
    let start = c.args.start in
    let nodes = c.nodes.result in
    let begun = flood_start ends old nodes start c.requires.size c.requires.start c.requires.fresh in
    let all = c.in_ok-flood.ensures in
    let met_items : c.in_ok-met.met.items ≡ replicate nodes false = c.in_ok-met.ensures.items_if_clones_equal (search rules) in
    let met : c.as_mut_slice.result.now ≡ replicate nodes false = c.as_mut_slice.ensures.value ∙ met_items in
    let list : c.push.new.self.items ≡ start ∷ [] = c.in_ok-push.ensures.items ∙ ap (λ xs. xs ++ start ∷ []) c.new-list.ensures.items in
    let P : List Bool → Type 0 = λ m. IsFlood ends old (set old start true) m c.push.new.self.items in
    let flood = subst P (sym met) (subst (IsFlood ends old (set old start true) (replicate nodes false)) (sym list) begun) in
    flood_done ends old c.flood.new.marks all.met_new c.flood.new.list.items (all.floods old flood) c.requires.whole all.done start (all.first ∙ ap (λ xs. at xs 0) list)
