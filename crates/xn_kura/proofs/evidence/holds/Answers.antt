use Rattle.xn_kura.proofs.Stages.{exact_five, exact_three_three}
use Rattle.xn_kura.proofs.evidence.holds.Goals as goal

pub returns-in-Five-clause-ok : goal.returns-in-Five-clause-ok
returns-in-Five-clause-ok c =
    (exact_five c.args.web.now c.args.evidence.now c.in-Five.branch c.in-Five.paths c.judge.result c.in-Five.is c.requires.kind c.judge.ensures.ok c.judge.ensures.err).0

pub returns-in-Five-clause-err : goal.returns-in-Five-clause-err
returns-in-Five-clause-err c =
    (exact_five c.args.web.now c.args.evidence.now c.in-Five.branch c.in-Five.paths c.judge.result c.in-Five.is c.requires.kind c.judge.ensures.ok c.judge.ensures.err).1

pub returns-in-ThreeThree-clause-ok : goal.returns-in-ThreeThree-clause-ok
returns-in-ThreeThree-clause-ok c =
    let three = c.in-ThreeThree in
    let judge = c.judge-in-ThreeThree in
    (exact_three_three c.args.web.now c.args.evidence.now three.branch three.paths judge.result three.is c.requires.kind judge.ensures.ok judge.ensures.err).0

pub returns-in-ThreeThree-clause-err : goal.returns-in-ThreeThree-clause-err
returns-in-ThreeThree-clause-err c =
    let three = c.in-ThreeThree in
    let judge = c.judge-in-ThreeThree in
    (exact_three_three c.args.web.now c.args.evidence.now three.branch three.paths judge.result three.is c.requires.kind judge.ensures.ok judge.ensures.err).1
