use Rattle.std.proofs.Common.{◌<◌, ◌^◌, arith}
use Rattle.std.specs.Prelude.{Ok}
use Rattle.xn_kinds.specs.declared.answers.Answer.{Answer}
use Rattle.xn_proof.specs.Spelling.{text_of}
use Rattle.xn_proof.specs.WellFormed.{WellFormed}
use Rattle.xn_check.specs.Verdict.{Verdict}
use Rattle.xn_solve.specs.Answers.{answer_made}
use Rattle.xn_solve.proofs.Made.{made_is_proved, made_well_formed, of_made}
use Rattle.xn_solve.proofs.answering.answer_of.Goals as goal

pub returns-clause-well_formed : goal.returns-clause-well_formed
returns-clause-well_formed c =
    let g = c.args.graph.now in
    let r = c.args.solved in
    let loops_small : c.args.loops < 2 ^ 64 = omega (arith, c.ranges.loops.fits) in
    of_made WellFormed g c.in_ok-copy.copy c.args.loops c.in_ok-upper.upper c.args.budget r c.in_ok-copy.ensures c.in_ok-upper.ensures
    (made_well_formed g c.args.budget r c.nodes-nodes.ensures.limited c.requires.budget c.requires.solved c.answers.ensures c.args.loops loops_small)

pub returns-clause-accepted : goal.returns-clause-accepted
returns-clause-accepted c =
    let g = c.args.graph.now in
    let r = c.args.solved in
    let limited = c.nodes-nodes.ensures.limited in
    let loops_small : c.args.loops < 2 ^ 64 = omega (arith, c.ranges.loops.fits) in
    let formed = made_well_formed g c.args.budget r limited c.requires.budget c.requires.solved c.answers.ensures c.args.loops loops_small in
    let proved = made_is_proved g c.args.budget r limited c.requires.budget c.requires.solved c.args.loops in
    of_made (λ (a : Answer). Verdict g c.args.loops (text_of a) (Ok (a.lower, a.upper)))
    g c.in_ok-copy.copy c.args.loops c.in_ok-upper.upper c.args.budget r c.in_ok-copy.ensures c.in_ok-upper.ensures
    (c.accepted_answers.ensures (answer_made g c.args.loops c.args.budget r) formed proved)
