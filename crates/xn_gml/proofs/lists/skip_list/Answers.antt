use Rattle.std.proofs.Common.{ap, ◌∙◌, arith, length}
use Rattle.xn_gml.specs.Lists.{listed_pairs_from}
use Rattle.xn_gml.proofs.PairSteps.{passes, no_pairs}
use Rattle.xn_gml.proofs.lists.skip_list.Goals as goal

pub returns-in_default-clause-skipped : goal.returns-in_default-clause-skipped
returns-in_default-clause-skipped c =
    no_pairs c.loop-depth.depth 0 c.loop-depth.tokens c.next.new.self c.in_default.ensures.none.0 c.in_default.ensures.none.1 ∙ c.loop-depth.invariant.same

pub loop-depth-preserved : goal.loop-depth-preserved
loop-depth-preserved c =
    let one_less = ap length c.in-Some.ensures.some in
    record {
      same = ap (λ n. listed_pairs_from n c.next.new.self) c.opened-depth.ensures.value
          ∙ passes c.loop-depth.depth c.loop-depth.tokens c.next.new.self c.in-Some.token c.loop-depth-test.true c.in-Some.ensures.some
          ∙ c.loop-depth.invariant.same;
      few = omega (arith, c.opened-depth.ensures.few, one_less);
      shorter = omega (arith, one_less);
    }
