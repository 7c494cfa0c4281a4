use Rattle.std.proofs.Common.{length, suc, sym, ◌∙◌, ap, arith}
use Rattle.xn_model.specs.Lists.{at}
use Rattle.xn_map.specs.Marks.{is_marked}
use Rattle.xn_map.proofs.Marking.{MarksWalk-more, MarksCycle-from_walk}
use Rattle.xn_map.proofs.rotation.mark_ring.Goals as goal

pub loop-marks-preserved : goal.loop-marks-preserved
loop-marks-preserved c =
    let next = at c.args.next.now in
    let old = c.loop-marks.invariant in
    let walk = old.walk in
    record {
      dart = c.requires.permutes.below c.loop-marks.e old.dart;
      walk = (
        suc walk.0,
        ap next walk.1,
        MarksWalk-more (length c.args.next.now) next c.args.d walk.0 c.loop-marks.e c.args.marks.now c.loop-marks.marks walk.1
            (omega (arith, old.dart, c.loop-marks.auto.marks, c.requires.same_length)) walk.2,
      );
    }

pub returns : goal.returns
returns c =
    let walk = c.loop-marks.invariant.walk in
    MarksCycle-from_walk (length c.args.next.now) (at c.args.next.now) c.requires.permutes c.args.d c.requires.dart walk.0
    c.args.marks.now c.loop-marks.marks walk.2 c.requires.fresh c.requires.closed
    (ap (is_marked c.loop-marks.marks) (sym walk.1) ∙ c.loop-marks-test.false)
