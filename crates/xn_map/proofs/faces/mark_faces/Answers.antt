use Rattle.std.proofs.Common.{◌<◌, ◌+◌, ℕ, Bool, List, length, ◌∙◌, arith}
use Rattle.xn_model.specs.Lists.{at}
use Rattle.xn_model.specs.Map.{face_step}
use Rattle.xn_map.proofs.FaceSteps.{Permutes-face_step}
use Rattle.xn_map.proofs.Marking.{CountsCycles, IsClosed-from_below, counts_fresh, counts_marked}
use Rattle.xn_map.proofs.faces.mark_faces.Goals as goal
use Rattle.xn_map.proofs.faces.mark_faces.Goals.{then-not-marks-d, else-not-marks-d}

pub mark_face-requires-clause-closed : goal.mark_face-requires-clause-closed
mark_face-requires-clause-closed c =
    let n = length c.args.rings.now in
    let next = at c.args.rings.now in
    IsClosed-from_below n (face_step next) (Permutes-face_step n next c.requires.even c.len-d-end.ensures.permutes) c.loop-d.d c.loop-d.marks c.loop-d.invariant.cycles.marked

pub loop-d-preserved : goal.loop-d-preserved
loop-d-preserved c =
    let n = length c.args.rings.now in
    let next = at c.args.rings.now in
    let f = face_step next in
    let permutes = Permutes-face_step n next c.requires.even c.len-d-end.ensures.permutes in
    let d = c.loop-d.d in
    let marks = c.loop-d.marks in
    let old = c.loop-d.invariant in
    let d_in : d < n = omega (arith, c.loop-d-test.true, c.len-d-end.ensures.len) in
    let P : List Bool → ℕ → Type 0 = λ new count. CountsCycles n f (d + 1) new count in
    let counts : P c.if-not-marks-d.marks c.if-not-marks-d.count = elim c.if-not-marks-d.branch [
      | then-not-marks-d w ↦
          let fresh = counts_fresh n f permutes d marks c.loop-d.count old.cycles d_in w.mark_face.new.marks w.if-not-marks-d.true w.mark_face.ensures in
          rw (w.marks-is, w.count-is) fresh
      | else-not-marks-d w ↦
          let marked = counts_marked n f permutes d marks c.loop-d.count old.cycles d_in w.if-not-marks-d.false in
          rw (w.marks-is, w.count-is) marked
    ] in
    record {
      cycles = counts;
      few = elim c.if-not-marks-d.branch [ then-not-marks-d w ↦ omega (arith, w.count-is, old.few) | else-not-marks-d w ↦ omega (arith, w.count-is, old.few) ];
      same_length = c.if-not-marks-d.auto.marks ∙ old.same_length;
    }
