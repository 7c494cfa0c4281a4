use Rattle.xn_tree.specs.Given.{state_of}
use Rattle.xn_effort.specs.Potential.{ones_in}
use Rattle.xn_search.proofs.Opened.{closed_by_ones, decided_well}
use Rattle.xn_search.proofs.round.choose.Goals as goal

pub is_full-requires : goal.is_full-requires
is_full-requires g c = record { counted = (ones_in c.args.claim.now.graph.now (state_of c.args.given.now), c.requires.counted) }

pub returns-then-is_full-clause-chosen : goal.returns-then-is_full-clause-chosen
returns-then-is_full-clause-chosen g c =
    let s = state_of c.args.given.now in
    rw c.closing_leaf.ensures
    (closed_by_ones c.closing_leaves.ensures.ones c.args.claim.now.graph.now c.args.claim.now.crossings c.args.rows.now.items s
    (c.is_full.ensures.full c.if-is_full.true (ones_in c.args.claim.now.graph.now s) c.requires.counted))

pub decide-requires-clause-ones : goal.decide-requires-clause-ones
decide-requires-clause-ones g c = c.is_full.ensures.low c.if-is_full.false (ones_in c.args.claim.now.graph.now (state_of c.args.given.now)) c.requires.counted

pub returns-clause-chosen : goal.returns-clause-chosen
returns-clause-chosen g c =
    let s = state_of c.args.given.now in
    let low = c.is_full.ensures.low c.if-is_full.false (ones_in c.args.claim.now.graph.now s) c.requires.counted in
    decided_well c.args.claim.now.graph.now c.args.claim.now.crossings c.decide.new.rows.items s c.in_ok-decision.decision low c.in_ok-decision.ensures.decided
