use Rattle.std.proofs.Common.{◌≡◌, length, arith, rules, sym, ◌∙◌}
use Rattle.xn_gml.proofs.Steps.{goes_on, gives, no_tokens}
use Rattle.xn_gml.proofs.stream.next_token.Goals as goal

pub returns-in-Some-clause-some : goal.returns-in-Some-clause-some
returns-in-Some-clause-some c =
    sym c.loop-rest.invariant.same ∙ gives c.loop-rest.at c.loop-rest.rest.now c.split_at.result.1.now c.begins-token.result c.in-Some.token (omega arith) c.begins-token.ensures.value c.split_at.ensures.back c.in-Some.is

pub loop-rest-preserved : goal.loop-rest-preserved
loop-rest-preserved c = record {
  same = goes_on c.loop-rest.at c.loop-rest.rest.now c.split_at.result.1.now c.begins-token.result (omega arith) c.begins-token.ensures.value c.split_at.ensures.back c.in-None.is ∙ c.loop-rest.invariant.same;
  place = omega arith;
}

pub returns-clause-none : goal.returns-clause-none
returns-clause-none c =
    let empty : length c.loop-rest.rest.now ≡ 0 = search rules in
    sym c.loop-rest.invariant.same ∙ no_tokens c.loop-rest.at c.loop-rest.rest.now empty
