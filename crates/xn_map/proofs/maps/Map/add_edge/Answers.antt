use Rattle.xn_map.specs.Listed.{map_of}
use Rattle.xn_map.proofs.Changes.{EdgeAdded, edge_added, grown_alone}
use Rattle.xn_map.proofs.maps.Map.add_edge.Goals as goal

added : (c : goal.After-stand-in-Ok) → EdgeAdded c.args.self.now c.args.a c.args.b (map_of c.add_segment.new.self c.stand-in-Ok.new.rings)
added c =
    edge_added (map_of c.self.inside.web c.self.inside.rings) c.args.self.now c.self.view_is c.self.invariant c.args.a c.args.b c.requires.a_in c.requires.b_in c.requires.two_nodes c.requires.one_face
    c.add_segment.new.self c.grow.new.self c.stand.new.rings c.stand-in-Ok.new.rings c.node_of-u.result c.node_of-v.result c.node_of-u.ensures.value c.node_of-v.ensures.value
    c.in-Ok.ensures.ok c.in_ok-grow.ensures.ok c.segments-s.result c.segments-s.ensures.value c.stand.ensures c.stand-in-Ok.ensures

pub invariant_of-self-in-Ok : goal.invariant_of-self-in-Ok
invariant_of-self-in-Ok c = (added c).listed

pub shrink-requires-clause-alone : goal.shrink-requires-clause-alone
shrink-requires-clause-alone c = grown_alone c.self.inside.rings c.grow.new.self c.in_ok-grow.ensures.ok

pub returns-in-Ok-clause-ok : goal.returns-in-Ok-clause-ok
returns-in-Ok-clause-ok c = (added c).inserts

pub returns-in-Ok-clause-flat : goal.returns-in-Ok-clause-flat
returns-in-Ok-clause-flat c = (added c).flat
