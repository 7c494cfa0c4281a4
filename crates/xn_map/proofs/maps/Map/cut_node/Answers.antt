use Rattle.std.proofs.Common.{ap, length, ◌∙◌}
use Rattle.std.proofs.lemmas.List.Edits.{length-swap}
use Rattle.xn_map.specs.Listed.{map_of}
use Rattle.xn_map.proofs.Cut.{NodeCut, node_cut}
use Rattle.xn_map.proofs.maps.Map.cut_node.Goals as goal

cut : (c : goal.After-splice) → NodeCut c.args.self.now c.args.a c.args.b (map_of c.move_arc.new.web c.splice.new.self)
cut c =
    let next = c.self.inside.rings in
    let before_a = c.prev-before_a in
    let before_b = c.prev-before_b in
    node_cut (map_of c.self.inside.web next) c.args.self.now c.self.view_is c.self.invariant c.args.a c.args.b before_a.result before_b.result
    c.requires.a_in c.requires.b_in c.requires.differ c.requires.one_node before_a.ensures.below before_b.ensures.below before_a.ensures.leads before_b.ensures.leads
    c.in_ok-v.v c.in_ok-v.ensures.node c.add_node.new.self c.move_arc.new.web c.in_ok-v.ensures.ok c.move_arc.ensures c.splice.new.self
    (ap length c.splice.ensures.swapped ∙ length-swap next before_a.result before_b.result) c.splice.ensures.splice

pub invariant_of-self-2 : goal.invariant_of-self-2
invariant_of-self-2 c = (cut c).listed

pub returns-clause-ok : goal.returns-clause-ok
returns-clause-ok c = (cut c).splits
