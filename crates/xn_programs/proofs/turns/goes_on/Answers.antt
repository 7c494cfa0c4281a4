use Rattle.xn_programs.proofs.Grown.{grown_more}
use Rattle.xn_programs.proofs.turns.goes_on.Goals as goal

pub returns-then-not-has_middle : goal.returns-then-not-has_middle
returns-then-not-has_middle g c = record {
  grown = grown_more c.args.claim.now.graph.now c.args.rows.now.items c.loop-cutter.rows.items c.ask.new.rows.items c.loop-cutter.invariant c.in_ok-ask.ensures.grown;
}

pub loop-cutter-preserved : goal.loop-cutter-preserved
loop-cutter-preserved g c =
    grown_more c.args.claim.now.graph.now c.args.rows.now.items c.loop-cutter.rows.items c.ask.new.rows.items c.loop-cutter.invariant c.in_ok-ask.ensures.grown
