use Rattle.std.proofs.Common.{◌≡◌, ◌∙◌, List, [], ◌∷◌, ◌++◌, ℕ, ap, subst, sym}
use Rattle.xn_map.specs.Anchored.{AreAnchors}
use Rattle.xn_map.proofs.Anchoring.{anchors_more}
use Rattle.xn_map.proofs.anchored.Anchored.add_node.Goals as goal

pub invariant_of-self-2 : goal.invariant_of-self-2
invariant_of-self-2 c =
    let darts = c.self.inside.darts.items in
    let items : c.push_reserved.new.self.items ≡ darts ++ 0 ∷ [] = c.push_reserved.ensures.items ∙ ap (λ xs. xs ++ 0 ∷ []) c.in_ok-reserve.ensures.items in
    let P : List ℕ → Type 0 = λ xs. AreAnchors c.add_node.new.self xs in
    subst P (sym items) (anchors_more c.self.inside.web darts c.add_node.new.self c.self.invariant c.nodes-v.ensures.limited.ends_in c.add_node.ensures.added)
