use Rattle.std.proofs.Common.{◌∙◌, ◌-◌, ap, subst, sym, take}
use Rattle.xn_model.specs.Graph.{EndsIn, Graph}
use Rattle.xn_map.proofs.Anchoring.{anchors_less}
use Rattle.xn_map.proofs.anchored.Anchored.remove_node.Goals as goal

pub invariant_of-self : goal.invariant_of-self
invariant_of-self c =
    let web = c.self.inside.web in
    let darts = c.self.inside.darts.items in
    let E : Graph → Type 0 = λ w. EndsIn (w.nodes - 1) w.ends in
    let left = c.nodes-left.ensures.value ∙ sym c.self.invariant.each in
    let items = c.truncate.ensures.items ∙ ap (λ n. take (n - 1) darts) left in
    anchors_less web darts c.remove_node.new.self c.self.invariant (subst E (sym c.self.view_is) c.requires.lone) c.remove_node.ensures c.truncate.new.self.items items
