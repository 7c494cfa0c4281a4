use Rattle.xn_map.specs.Listed.{map_of}
use Rattle.xn_map.proofs.Passing.{NodePassed, is_left_alone, node_passed, only_two}
use Rattle.xn_map.proofs.maps.Map.pass_node.Goals as goal
use Rattle.xn_map.proofs.maps.Map.pass_node.Goals.{After-lose_node}

pub lead_on-requires-clause-only : goal.lead_on-requires-clause-only
lead_on-requires-clause-only c =
    only_two (map_of c.self.inside.web c.self.inside.rings) c.args.self.now c.self.view_is c.self.invariant c.args.v
    c.two_darts-p.result.0 c.two_darts-p.result.1 c.two_darts-p.ensures

pub lose_node-requires-clause-node : goal.lose_node-requires-clause-node
lose_node-requires-clause-node c =
    (is_left_alone (map_of c.self.inside.web c.self.inside.rings) c.args.self.now c.self.view_is c.self.invariant c.args.v
    c.two_darts-p.result.0 c.two_darts-p.result.1 c.two_darts-p.ensures c.len.result c.run_on.new.rings c.fill.new.rings c.shrink.new.self
    c.run_on.ensures c.len.ensures.len c.fill.ensures c.shrink.ensures c.lead_on.new.web c.lead_on.ensures).node

pub lose_node-requires-clause-lone : goal.lose_node-requires-clause-lone
lose_node-requires-clause-lone c =
    (is_left_alone (map_of c.self.inside.web c.self.inside.rings) c.args.self.now c.self.view_is c.self.invariant c.args.v
    c.two_darts-p.result.0 c.two_darts-p.result.1 c.two_darts-p.ensures c.len.result c.run_on.new.rings c.fill.new.rings c.shrink.new.self
    c.run_on.ensures c.len.ensures.len c.fill.ensures c.shrink.ensures c.lead_on.new.web c.lead_on.ensures).lone

pub lose_node-requires-clause-map : goal.lose_node-requires-clause-map
lose_node-requires-clause-map c =
    (is_left_alone (map_of c.self.inside.web c.self.inside.rings) c.args.self.now c.self.view_is c.self.invariant c.args.v
    c.two_darts-p.result.0 c.two_darts-p.result.1 c.two_darts-p.ensures c.len.result c.run_on.new.rings c.fill.new.rings c.shrink.new.self
    c.run_on.ensures c.len.ensures.len c.fill.ensures c.shrink.ensures c.lead_on.new.web c.lead_on.ensures).map

passed : (c : After-lose_node) → NodePassed c.args.self.now c.args.v (map_of c.lose_node.new.web c.shrink.new.self)
passed c =
    node_passed (map_of c.self.inside.web c.self.inside.rings) c.args.self.now c.self.view_is c.self.invariant c.args.v
    c.two_darts-p.result.0 c.two_darts-p.result.1 c.two_darts-p.ensures c.len.result c.run_on.new.rings c.fill.new.rings c.shrink.new.self
    c.run_on.ensures c.len.ensures.len c.fill.ensures c.shrink.ensures c.lead_on.new.web c.lose_node.new.web c.lead_on.ensures c.lose_node.ensures

pub invariant_of-self : goal.invariant_of-self
invariant_of-self c = (passed c).listed

pub returns-clause-smoothed : goal.returns-clause-smoothed
returns-clause-smoothed c = (passed c).smooths
