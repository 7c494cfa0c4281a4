use Rattle.std.proofs.Common.{arith}
use Rattle.xn_gml.proofs.Steps.{tokens_le_bytes}
use Rattle.xn_gml.proofs.stream.Tokens.left.Goals as goal

pub returns-clause-most : goal.returns-clause-most
returns-clause-most c = rw (← c.self.view_is) (omega (arith, tokens_le_bytes 0 c.self.inside.at c.self.inside.rest.now))
