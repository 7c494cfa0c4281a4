use Rattle.std.proofs.Common.{rules}
use Rattle.xn_gml.proofs.Digits.{large_is}
use Rattle.xn_gml.proofs.runs.integer_of.Goals as goal

pub returns-in-None : goal.returns-in-None
returns-in-None c = large_is c.args.run.now c.unsigned-digits.result.now c.unsigned-digits.ensures (search rules) c.in-None.ensures
