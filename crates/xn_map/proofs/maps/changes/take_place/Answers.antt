use Rattle.std.proofs.Common.{◌≡◌, ◌∙◌, ℕ, ap, length, subst}
use Rattle.std.proofs.lemmas.List.Edits.{length-swap}
use Rattle.xn_model.specs.Lists.{at}
use Rattle.xn_model.specs.Permutation.{IsSplice}
use Rattle.xn_map.proofs.Fill.{place_taken}
use Rattle.xn_map.proofs.maps.changes.take_place.Goals as goal

pub returns : goal.returns
returns c =
    let old = c.args.rings.now in
    let mid = c.splice.new.self in
    let new = c.splice-2.new.self in
    let size : length mid ≡ length old = ap length c.splice.ensures.swapped ∙ length-swap old c.prev-before.result c.args.d in
    let P : ℕ → Type 0 = λ k. IsSplice k c.args.d c.args.x (at mid) (at new) in (
      ap length c.splice-2.ensures.swapped ∙ length-swap mid c.args.d c.args.x ∙ size,
      place_taken (length old) c.args.x c.args.d c.prev-before.result (at old) (at mid) (at new) c.requires.darts.0 c.requires.darts.1 c.requires.darts.2
          c.prev-before.ensures.below c.prev-before.ensures.leads c.requires.alone c.requires.permutes c.splice.ensures.splice (subst P size c.splice-2.ensures.splice),
    )
