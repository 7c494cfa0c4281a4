use Rattle.xn_app.proofs.system.start.Goals as goal

pub returns : goal.returns
returns c = (c.start_on.ensures.end, c.start_on.ensures.code_is)
