use Rattle.std.proofs.Common.{◌+◌, ◌*◌, ap, length, subst, sym, ◌∙◌}
use Rattle.std.proofs.lemmas.List.Edits.{length-swap}
use Rattle.xn_model.specs.Permutation.{Permutes}
use Rattle.xn_model.specs.Lists.{at}
use Rattle.std.proofs.Common.{ℕ}
use Rattle.xn_map.specs.Listed.{map_of}
use Rattle.xn_map.proofs.Subdivided.{NodeAdded, grown_permutes, node_added}
use Rattle.xn_map.proofs.maps.Map.subdivide.Goals as goal

added : (c : goal.After-splice) → NodeAdded c.args.self.now c.args.s (map_of c.divide.new.web c.splice.new.self)
added c =
    let half = c.take_place.new.rings in
    node_added (map_of c.self.inside.web c.self.inside.rings) c.args.self.now c.self.view_is c.self.invariant c.args.s c.segments-last.result c.requires.segment
    c.segments-last.ensures.value c.divide.new.web c.in-Ok.ensures.ok c.grow.new.self half c.splice.new.self c.in_ok-grow.ensures.ok c.take_place.ensures
    (ap length c.splice.ensures.swapped ∙ length-swap half (2 * c.args.s + 1) (2 * c.segments-last.result)) c.splice.ensures.splice

pub take_place-requires-clause-permutes : goal.take_place-requires-clause-permutes
take_place-requires-clause-permutes c =
    let next = c.self.inside.rings in
    let P : ℕ → Type 0 = λ k. Permutes k (at next) in
    grown_permutes next c.grow.new.self c.in_ok-grow.ensures.ok (subst P (sym c.self.invariant.fits) c.self.invariant.is_map.permutes)

pub invariant_of-self-in-Ok : goal.invariant_of-self-in-Ok
invariant_of-self-in-Ok c = (added c).listed

pub returns-in-Ok-clause-ok : goal.returns-in-Ok-clause-ok
returns-in-Ok-clause-ok c = (added c).subdivides

pub returns-in-Ok-clause-flat : goal.returns-in-Ok-clause-flat
returns-in-Ok-clause-flat c = (added c).flat
