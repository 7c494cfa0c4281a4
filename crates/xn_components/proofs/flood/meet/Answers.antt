use Rattle.std.proofs.Common.{◌≡◌, ℕ, ◌*◌, ◌/◌, ◌<◌, length, ap, subst, ◌∙◌, arith}
use Rattle.std.specs.Prelude.{Option, Some, None, slice_index_or}
use Rattle.std.proofs.lemmas.List.{get_or_default}
use Rattle.xn_components.proofs.Meeting.{MeetsSome, dart_low, meets_more, meets_on}
use Rattle.xn_components.proofs.flood.meet.Goals.{then-not-marks-d+in_ok-push, else-not-marks-d}
use Rattle.xn_components.proofs.flood.meet.Goals as goal

pub loop-dart-preserved : goal.loop-dart-preserved
loop-dart-preserved c =
    let web = c.args.web.now in
    let v = c.args.v in
    let d = c.in-Some.d in
    let chains = c.requires.darts in
    let latest = c.args.darts.now.latest.items in
    let earlier = c.args.darts.now.earlier.items in
    let marks = c.args.marks.now in
    let met = c.args.met.now in
    let list = c.args.list.now.items in
    let now = c.loop-dart.marks in
    let listed = c.loop-dart.list.items in
    let P : Option ℕ → Type 0 = λ o. MeetsSome web.ends v marks met list now listed o in
    let some : P (Some d) = subst P c.in-Some.is c.loop-dart.invariant in
    let low : d < 2 * length web.ends = dart_low web latest earlier chains v c.requires.node marks met now list listed d some in
    let d_in : d < length earlier = omega (arith, low, chains.below.size) in
    let next : c.index-dart-in-Some.result.now ≡ slice_index_or earlier d None =
    c.index-dart-in-Some.ensures ∙ get_or_default earlier d c.index-dart-in-Some.result.now None d_in in
    elim c.if-not-marks-d.branch [
      | then-not-marks-d+in_ok-push w ↦
          rw (w.marks-is, w.list-is, w.in_ok-push.ensures.items, next)
          (meets_more web latest earlier chains v c.requires.node marks met now list listed d some c.requires.size w.if-not-marks-d.true c.requires.reached)
      | else-not-marks-d w ↦
          rw (w.marks-is, w.list-is, next)
          (meets_on web latest earlier chains v c.requires.node marks met now list listed d some w.if-not-marks-d.false)
    ]
