use Rattle.std.proofs.Common.{◌≡◌, ◌<◌, inl, inr, length, sym, ◌∙◌, ap, subst, arith}
use Rattle.std.proofs.lemmas.Bool.{both_ways, cases_eq}
use Rattle.xn_model.specs.Loose.{dart_count}
use Rattle.xn_graph.proofs.DartsOf.{length-darts_of}
use Rattle.xn_insert.specs.Judged.{IsUnmarkedFour}
use Rattle.xn_insert.proofs.judging.first_no_crossing.Goals.{then-at-ne4-via-then-at-ne4, then-at-ne4-via-else-at-ne4+then-bends-v}
use Rattle.xn_insert.proofs.judging.first_no_crossing.Goals as goal

pub returns-then-at-ne4 : goal.returns-then-at-ne4
returns-then-at-ne4 c =
    let ends = c.args.stars.now.ends in
    let v = c.loop-v.v in
    let count : length c.at.result.now ≡ dart_count ends v = ap length c.at.ensures ∙ length-darts_of ends v in
    let v_in : v < c.args.stars.now.nodes = omega (arith, c.loop-v-test.true, c.nodes-v-end.ensures.value) in (
      v_in,
      record {
        from = c.loop-v.auto.v;
        fails = λ is. elim c.then-at-ne4.branch [
          | then-at-ne4-via-then-at-ne4 w ↦ w.if-at-ne4.true (count ∙ is.0)
          | then-at-ne4-via-else-at-ne4+then-bends-v w ↦ both_ways _ is.1 w.if-bends-v.true
        ];
        before = c.loop-v.invariant;
      },
    )

pub loop-v-preserved : goal.loop-v-preserved
loop-v-preserved c = λ w low less.
    let ends = c.args.stars.now.ends in
    let v = c.loop-v.v in
    let count : length c.at.result.now ≡ dart_count ends v = ap length c.at.ensures ∙ length-darts_of ends v in
    elim (cases_eq w v) [
      | inl here ↦ subst (IsUnmarkedFour ends c.args.bends.now) (sym here) (sym count ∙ c.if-at-ne4.false, c.if-bends-v.false)
      | inr other ↦ c.loop-v.invariant w low (omega (arith, less, other))
    ]
