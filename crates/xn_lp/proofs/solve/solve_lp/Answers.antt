use Rattle.std.proofs.Common.{rules}
use Rattle.xn_lp.specs.Program.{AnswerHolds}
use Rattle.xn_lp.proofs.Duality.{answer_decides}
use Rattle.xn_lp.proofs.solve.solve_lp.Goals as goal

pub returns-in-Ok-Some-clause-nothing : goal.returns-in-Ok-Some-clause-nothing
returns-in-Ok-Some-clause-nothing c =
    let holds : AnswerHolds c.args.lp.now c.in-Ok-Some.answer = search rules in
    answer_decides c.args.lp.now c.in-Ok-Some.answer c.requires holds
