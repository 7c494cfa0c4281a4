use Rattle.std.proofs.Common.{◌≡◌, ◌<◌, ◌+◌, ℕ, List, [], ◌∷◌, ◌++◌, ◌∙◌, length, take, subst, sym, ap, arith}
use Rattle.std.proofs.lemmas.List.{take_more}
use Rattle.xn_map.specs.Forest.{HoldsComponents}
use Rattle.xn_map.proofs.Forest.{HoldsComponents-join, HoldsComponents-start}
use Rattle.xn_map.proofs.components.join_ends.Goals as goal

pub loop-s-init : goal.loop-s-init
loop-s-init c =
    let P : List ℕ → Type 0 = λ l. HoldsComponents l (record { nodes = c.args.web.now.nodes; ends = [] }) in
    subst P (sym c.requires) (HoldsComponents-start c.args.web.now.nodes)

pub loop-s-preserved : goal.loop-s-preserved
loop-s-preserved c =
    let nodes = c.args.web.now.nodes in
    let ends = c.args.web.now.ends in
    let s = c.loop-s.s in
    let s_in : s < length ends = omega (arith, c.loop-s-test.true, c.segments-s-end.ensures.value) in
    let p = c.end-u.result in
    let one_more : take s ends ++ p ∷ [] ≡ take (s + 1) ends = ap (λ q. take s ends ++ q ∷ []) c.end-u.ensures.value ∙ sym (take_more ends s (0, 0) s_in) in
    let P : List (ℕ × ℕ) → Type 0 = λ done. HoldsComponents c.join.new.parents (record { nodes = nodes; ends = done }) in
    subst P one_more (HoldsComponents-join nodes (take s ends) p c.loop-s.parents c.join.new.parents c.loop-s.invariant
    c.end-u.ensures.nodes.0 c.end-u.ensures.nodes.1 c.join.ensures.forest c.join.auto.parents c.join.ensures.joined)
