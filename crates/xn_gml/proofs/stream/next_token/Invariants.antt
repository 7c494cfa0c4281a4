use Rattle.std.proofs.Common.{◌≡◌, ◌+◌, length}
use Rattle.xn_gml.specs.Tokens.{tokens_from}
use Rattle.xn_gml.proofs.stream.next_token.Given as goal

abbrev pub invariant-loop-rest : goal.invariant-loop-rest
invariant-loop-rest l = record {
  same : tokens_from 0 l.at l.rest ≡ tokens_from 0 l.from l.bytes;
  place : l.at + length l.rest ≡ l.from + length l.bytes;
}

abbrev pub decreases-loop-rest : goal.decreases-loop-rest
decreases-loop-rest l = length l.rest
