use Rattle.std.proofs.Common.{ℕ, ◌*◌, ◌<◌, false, length, refl, arith}
use Rattle.std.proofs.lemmas.Bool.{both_ways}
use Rattle.xn_model.specs.Lists.{at}
use Rattle.xn_model.specs.Map.{face_step, reverse_of}
use Rattle.xn_model.proofs.Darts.{reverse_below}
use Rattle.xn_brute.proofs.Walks.{early}
use Rattle.xn_brute.proofs.insertions.in_one_face.Goals as goal

pub returns : goal.returns
returns c =
    let m = length c.args.web.now.ends in
    let long = c.requires.listing.long in
    let closed : (d : ℕ) → d < 2 * m → face_step (at c.args.next.now) d < 2 * m =
    λ d low. let r : reverse_of d < length c.args.next.now = omega (arith, reverse_below m d low, long) in c.requires.listing.darts (reverse_of d) 0 r in (
      λ t. absurd (both_ways false refl t),
      λ there.
          let found = early (2 * m) (face_step (at c.args.next.now)) closed c.args.d c.args.e there.0 (omega (arith, c.requires.d_in, long)) there.1 in
          absurd (c.loop.invariant.unmet found.0 (omega (arith, found.1, c.loop-test.false, c.segments-end.ensures.value)) found.2),
    )
