use Rattle.std.proofs.Common.{false, refl, ap, Err}
use Rattle.std.proofs.lemmas.Bool.{both_ways}
use Rattle.xn_model.specs.Lists.{at}
use Rattle.xn_map.proofs.Rotations.{flaws_are_no_maps}
use Rattle.xn_brute.proofs.drawings.is_flat.Goals as goal

pub returns-in-Err-Length : goal.returns-in-Err-Length
returns-in-Err-Length c = (λ no. absurd (both_ways false refl no), λ both. absurd (c.in-Err-Length.ensures.length.0 (ap Err c.in-Err-Length.field-0-is) both.0))

pub returns-in-Err-Rotation : goal.returns-in-Err-Rotation
returns-in-Err-Rotation c = (
  λ no. absurd (both_ways false refl no),
  λ both.
      let flaw = c.in-Err-Rotation.ensures.rotation c.in-Err-Rotation.field-0-0 (ap Err c.in-Err-Rotation.field-0-is) in
      absurd (flaws_are_no_maps c.args.web.nodes c.args.web.ends (at c.args.next.now) c.in-Err-Rotation.field-0-0 flaw.1 both.1.is_map),
)
