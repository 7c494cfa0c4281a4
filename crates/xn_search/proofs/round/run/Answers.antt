use Rattle.std.proofs.Common.{◌∙◌, List, ℕ, arith, subst, sym}
use Rattle.xn_tree.specs.Given.{state_of}
use Rattle.xn_tree.specs.Walk.{pending_of}
use Rattle.xn_effort.specs.Leads.{Searches}
use Rattle.xn_effort.specs.Potential.{ones_in}
use Rattle.xn_search.specs.Choice.{IsRoundDecision}
use Rattle.xn_search.specs.Ones.{EndsWith}
use Rattle.xn_search.proofs.Opened.{extends_more, found_ends, goes_first, goes_on, keeps_fits, not_where, proved_ends, spent_ends, state_first}
use Rattle.xn_search.proofs.Pushed.{first_counted}
use Rattle.xn_search.proofs.round.run.Goals as goal

pub loop-spent-init : goal.loop-spent-init
loop-spent-init g c = record {
  goes = goes_first c.args.claim.now.graph.now c.args.claim.now.crossings c.args.rows.now.items c.in_ok-walk.walk c.in_ok-ones.ones.items c.new-nodes.result.items c.requires.hold
      c.in_ok-walk.ensures.graph c.in_ok-walk.ensures.pending c.in_ok-ones.ensures.items c.new-nodes.ensures.items;
  kinds = λ kinds. kinds;
  in_budget = omega arith;
}

pub choose-requires-clause-graph : goal.choose-requires-clause-graph
choose-requires-clause-graph g c = c.given-given.ensures.graph ∙ c.loop-spent.invariant.goes.same_graph

pub choose-requires-clause-state : goal.choose-requires-clause-state
choose-requires-clause-state g c =
    state_first c.rounds.ensures.states c.args.claim.now.graph.now c.args.claim.now.crossings c.loop-spent.rows.items c.loop-spent.nodes.items (pending_of c.loop-spent.walk) (state_of c.given-given.result.now)
    c.loop-spent.invariant.goes.opened c.loop-spent.invariant.goes.some_left c.given-given.ensures.state

pub choose-requires-clause-counted : goal.choose-requires-clause-counted
choose-requires-clause-counted g c =
    subst (λ (numbers : List ℕ). EndsWith numbers (ones_in c.args.claim.now.graph.now (state_of c.given-given.result.now))) (sym c.as_slice.ensures.value)
    (first_counted c.args.claim.now.graph.now (pending_of c.loop-spent.walk) (state_of c.given-given.result.now) c.loop-spent.ones.items c.loop-spent.invariant.goes.counted
    c.loop-spent.invariant.goes.some_left c.given-given.ensures.state)

pub count_children-requires-clause-graph : goal.count_children-requires-clause-graph
count_children-requires-clause-graph g c = c.given-given.ensures.graph ∙ c.loop-spent.invariant.goes.same_graph

pub count_children-requires-clause-state : goal.count_children-requires-clause-state
count_children-requires-clause-state g c =
    state_first c.rounds.ensures.states c.args.claim.now.graph.now c.args.claim.now.crossings c.loop-spent.rows.items c.loop-spent.nodes.items (pending_of c.loop-spent.walk)
    (state_of c.given-given.result.now) c.loop-spent.invariant.goes.opened c.loop-spent.invariant.goes.some_left c.given-given.ensures.state

pub count_children-requires-clause-fits : goal.count_children-requires-clause-fits
count_children-requires-clause-fits g c =
    let t = c.args.claim.now.crossings in
    let s = state_of c.given-given.result.now in
    let rows = c.choose.new.rows.items in
    let searches : Searches c.args.claim.now.graph.now t rows s c.in-Open.node = subst (IsRoundDecision c.args.claim.now.graph.now t rows s) c.in-Open.is c.in_ok-drawn.ensures.chosen in
    keeps_fits c.args.claim.now.graph.now t rows s c.in-Open.node searches.0

pub count_children-requires-clause-searched : goal.count_children-requires-clause-searched
count_children-requires-clause-searched g c =
    let t = c.args.claim.now.crossings in
    let s = state_of c.given-given.result.now in
    let rows = c.choose.new.rows.items in
    let searches : Searches c.args.claim.now.graph.now t rows s c.in-Open.node = subst (IsRoundDecision c.args.claim.now.graph.now t rows s) c.in-Open.is c.in_ok-drawn.ensures.chosen in
    searches.1

pub count_children-requires-clause-counted : goal.count_children-requires-clause-counted
count_children-requires-clause-counted g c =
    first_counted c.args.claim.now.graph.now (pending_of c.loop-spent.walk) (state_of c.given-given.result.now) c.loop-spent.ones.items c.loop-spent.invariant.goes.counted
    c.loop-spent.invariant.goes.some_left c.given-given.ensures.state

pub choose-requires-clause-hold : goal.choose-requires-clause-hold
choose-requires-clause-hold g c = c.loop-spent.invariant.goes.rows_hold

pub choose-requires-clause-room : goal.choose-requires-clause-room
choose-requires-clause-room g c = omega (arith, c.loop-spent.invariant.goes.few, c.loop-spent-test.true, c.requires.room)

pub returns-in-Found-clause-more : goal.returns-in-Found-clause-more
returns-in-Found-clause-more g c = extends_more c.args.rows.now.items c.loop-spent.rows.items c.choose.new.rows.items c.loop-spent.invariant.goes.more c.in_ok-drawn.ensures.more

pub returns-in-Found-clause-kinds : goal.returns-in-Found-clause-kinds
returns-in-Found-clause-kinds g c = λ kinds. c.in_ok-drawn.ensures.kinds (c.loop-spent.invariant.kinds kinds)

pub returns-in-Found-clause-few : goal.returns-in-Found-clause-few
returns-in-Found-clause-few g c = omega (arith, c.in_ok-drawn.ensures.few, c.loop-spent.invariant.goes.few)

pub returns-in-Found-clause-round : goal.returns-in-Found-clause-round
returns-in-Found-clause-round g c =
    let t = c.args.claim.now.crossings in
    let rows = c.choose.new.rows.items in
    let found = subst (IsRoundDecision c.args.claim.now.graph.now t rows (state_of c.given-given.result.now)) c.in-Found.is c.in_ok-drawn.ensures.chosen in
    record {
      within = omega (arith, c.loop-spent-test.true);
      ends = found_ends c.more_rows.ensures.rounds c.rounds.ensures.more c.args.claim.now.graph.now t c.loop-spent.spent c.args.rows.now.items c.loop-spent.rows.items rows c.loop-spent.walk
          c.loop-spent.ones.items c.loop-spent.nodes.items c.loop-spent.invariant.goes c.in_ok-drawn.ensures.more c.args.budget c.in-Found.drawn found.0 found.1;
    }

pub returns-then-is_finished-clause-more : goal.returns-then-is_finished-clause-more
returns-then-is_finished-clause-more g c = extends_more c.args.rows.now.items c.loop-spent.rows.items c.choose.new.rows.items c.loop-spent.invariant.goes.more c.in_ok-drawn.ensures.more

pub returns-then-is_finished-clause-kinds : goal.returns-then-is_finished-clause-kinds
returns-then-is_finished-clause-kinds g c = λ kinds. c.in_ok-drawn.ensures.kinds (c.loop-spent.invariant.kinds kinds)

pub returns-then-is_finished-clause-few : goal.returns-then-is_finished-clause-few
returns-then-is_finished-clause-few g c = omega (arith, c.in_ok-drawn.ensures.few, c.loop-spent.invariant.goes.few)

pub returns-then-is_finished-clause-round : goal.returns-then-is_finished-clause-round
returns-then-is_finished-clause-round g c =
    let t = c.args.claim.now.crossings in
    let s = state_of c.given-given.result.now in
    let rows = c.choose.new.rows.items in
    let searches : Searches c.args.claim.now.graph.now t rows s c.in-Open.node = subst (IsRoundDecision c.args.claim.now.graph.now t rows s) c.in-Open.is c.in_ok-drawn.ensures.chosen in
    record {
      within = omega (arith, c.loop-spent-test.true);
      ends = proved_ends c.more_rows.ensures.rounds c.rounds.ensures.more c.args.claim.now.graph.now t c.loop-spent.spent c.args.rows.now.items c.loop-spent.rows.items rows c.loop-spent.walk
          c.loop-spent.ones.items c.loop-spent.nodes.items c.loop-spent.invariant.goes c.in_ok-drawn.ensures.more c.open.new.self s c.in-Open.node c.in_ok-open-in-Open.field-0 c.given-given.ensures.state searches
          c.in_ok-open-in-Open.ensures.opened c.push.new.self.items c.in_ok-push-in-Open.ensures.items c.args.budget (c.is_finished.ensures.0 c.if-is_finished.true);
    }

pub loop-spent-preserved : goal.loop-spent-preserved
loop-spent-preserved g c =
    let t = c.args.claim.now.crossings in
    let s = state_of c.given-given.result.now in
    let rows = c.choose.new.rows.items in
    let searches : Searches c.args.claim.now.graph.now t rows s c.in-Open.node = subst (IsRoundDecision c.args.claim.now.graph.now t rows s) c.in-Open.is c.in_ok-drawn.ensures.chosen in
    record {
      goes = goes_on c.more_rows.ensures.rounds c.rounds.ensures.more c.args.claim.now.graph.now t c.loop-spent.spent c.args.rows.now.items c.loop-spent.rows.items rows c.loop-spent.walk
          c.loop-spent.ones.items c.loop-spent.nodes.items c.loop-spent.invariant.goes c.in_ok-drawn.ensures.more c.open.new.self s c.in-Open.node c.in_ok-open-in-Open.field-0 c.given-given.ensures.state searches
          c.in_ok-open-in-Open.ensures.opened c.push.new.self.items c.in_ok-push-in-Open.ensures.items c.count_children.new.ones.items
          c.in_ok-count_children-in-Open.ensures c.in_ok-open-in-Open.ensures.graph
          (not_where _ _ c.is_finished.ensures c.if-is_finished.false) c.in_ok-drawn.ensures.hold c.in_ok-drawn.ensures.few;
      kinds = λ kinds. c.in_ok-drawn.ensures.kinds (c.loop-spent.invariant.kinds kinds);
      in_budget = omega (arith, c.loop-spent-test.true);
    }

pub returns-clause-more : goal.returns-clause-more
returns-clause-more g c = c.loop-spent.invariant.goes.more

pub returns-clause-hold : goal.returns-clause-hold
returns-clause-hold g c = c.loop-spent.invariant.goes.rows_hold

pub returns-clause-kinds : goal.returns-clause-kinds
returns-clause-kinds g c = c.loop-spent.invariant.kinds

pub returns-clause-few : goal.returns-clause-few
returns-clause-few g c = omega (arith, c.loop-spent.invariant.goes.few, c.loop-spent.invariant.in_budget)

pub returns-clause-round : goal.returns-clause-round
returns-clause-round g c = record {
  within = omega arith;
  ends = spent_ends c.more_rows.ensures.rounds c.rounds.ensures.more c.args.claim.now.graph.now c.args.claim.now.crossings c.loop-spent.spent c.args.budget c.args.rows.now.items c.loop-spent.rows.items c.loop-spent.walk
      c.loop-spent.ones.items c.loop-spent.nodes.items c.loop-spent.invariant.goes (omega (arith, c.loop-spent.invariant.in_budget, c.loop-spent-test.false));
}
