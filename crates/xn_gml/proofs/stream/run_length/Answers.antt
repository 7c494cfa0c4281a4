use Rattle.std.proofs.Common.{arith}
use Rattle.std.proofs.lemmas.Grind.{common_steps}
use Rattle.xn_gml.specs.Tokens.{ends_run}
use Rattle.xn_gml.proofs.Digits.{place_is}
use Rattle.xn_gml.proofs.stream.run_length.Goals as goal

pub returns-clause-value : goal.returns-clause-value
returns-clause-value c = let e = place_is ends_run c.args.bytes.now in grind (arith, common_steps)
