use Rattle.std.proofs.Common.{arith}
use Rattle.std.proofs.lemmas.Grind.{common_steps}
use Rattle.xn_gml.specs.Tokens.{is_line_end}
use Rattle.xn_gml.proofs.Digits.{place_is}
use Rattle.xn_gml.proofs.stream.line_length.Goals as goal

pub returns-clause-value : goal.returns-clause-value
returns-clause-value c = let e = place_is is_line_end c.args.bytes.now in grind (arith, common_steps)
