use Rattle.std.proofs.Common.{◌<◌, ◌∙◌, length, arith, true, length-set, refl, below_more}
use Rattle.std.proofs.lemmas.Bool.{both_ways}
use Rattle.xn_model.specs.Lists.{at}
use Rattle.xn_map.specs.Rotation.{LeadsWrong}
use Rattle.xn_map.proofs.Rotations.{MarksTargets-more, led_in}
use Rattle.xn_map.proofs.rotation.first_wrong.Goals as goal

pub loop-d-preserved : goal.loop-d-preserved
loop-d-preserved c =
    let ends = c.args.web.now.ends in
    let next = at c.args.next.now in
    let d = c.loop-d.d in
    let taken = c.loop-d.taken in
    let old = c.loop-d.invariant in
    let right : ¬ (LeadsWrong ends next d) = λ wrong. both_ways _ refl (c.if-leads_wrong.ensures.1 wrong) in
    let to_in : next d < length taken = omega (arith, led_in ends next d right, c.requires.darts, old.same_length) in
    record {
      marked = MarksTargets-more (length c.args.next.now) next d taken to_in old.marked;
      right = below_more (λ e. ¬ (LeadsWrong ends next e)) d old.right right;
      same_length = length-set taken (next d) true ∙ old.same_length;
    }
