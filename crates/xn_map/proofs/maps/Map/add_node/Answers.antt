use Rattle.xn_map.proofs.Changes.{added_flat, added_listed}
use Rattle.xn_map.proofs.maps.Map.add_node.Goals as goal

pub invariant_of-self-2 : goal.invariant_of-self-2
invariant_of-self-2 c = rw (c.in_ok-v.ensures.ok) (added_listed c.self.inside.web c.self.inside.rings c.self.invariant)

pub returns-clause-flat : goal.returns-clause-flat
returns-clause-flat c = rw (← c.self.view_is, c.in_ok-v.ensures.ok) (added_flat c.self.inside.web c.self.inside.rings c.self.invariant)
