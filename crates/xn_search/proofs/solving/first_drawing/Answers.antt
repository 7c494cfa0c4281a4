use Rattle.std.proofs.Common.{ap, arith, subst, sym}
use Rattle.xn_kinds.specs.State.{IsState, State}
use Rattle.xn_tree.specs.Given.{state_of}
use Rattle.xn_effort.specs.Potential.{ones_in}
use Rattle.xn_plant.specs.Planting.{IsPlanted, IsRowOfState}
use Rattle.xn_search.proofs.Crossless.{no_row_without_crossings}
use Rattle.xn_search.proofs.Pushed.{no_ones}
use Rattle.xn_search.proofs.solving.first_drawing.Goals as goal

pub plant-requires-clause-state : goal.plant-requires-clause-state
plant-requires-clause-state g c = subst (IsState c.args.graph.now) (sym c.in_ok-given.ensures.state) (c.trees_go_through_states.ensures.empty c.args.graph.now)

pub returns-in-Flat-clause-flat : goal.returns-in-Flat-clause-flat
returns-in-Flat-clause-flat g c = λ free.
    let planted = subst (IsPlanted c.args.graph.now (state_of c.in_ok-given.given)) c.in-Flat.is c.in_ok-drawing.ensures in
    omega (arith, planted.1, no_ones c.args.graph.now, ap (ones_in c.args.graph.now) c.in_ok-given.ensures.state)

pub returns-clause-flat : goal.returns-clause-flat
returns-clause-flat g c = λ free.
    let row = c.in-Excluded.field-0 in
    let planted = subst (IsPlanted c.args.graph.now (state_of c.in_ok-given.given)) c.in-Excluded.is c.in_ok-drawing.ensures in
    let is = subst (λ (s : State). IsRowOfState c.args.graph.now s row) c.in_ok-given.ensures.state planted in
    absurd (no_row_without_crossings c.all_drawings.ensures.simple c.rows.ensures.met c.args.graph.now c.nodes-nodes.ensures.limited.is_graph row is free)
