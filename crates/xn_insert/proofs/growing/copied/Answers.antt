use Rattle.std.proofs.Common.{ℕ, List, Err, ap, subst, ◌∙◌}
use Rattle.xn_model.specs.Graph.{Graph}
use Rattle.xn_model.specs.Lists.{at}
use Rattle.xn_map.specs.Rotation.{IsRotationFlaw}
use Rattle.xn_map.proofs.Rotations.{flaws_are_no_maps}
use Rattle.xn_insert.proofs.growing.copied.Goals as goal

pub unreachable-requires-in-Err-Rotation : goal.unreachable-requires-in-Err-Rotation
unreachable-requires-in-Err-Rotation c =
    let m = c.args.map.now in
    let d = c.in-Err-Rotation.field-0-0 in
    let web = c.in_ok-web.ensures ∙ c.web.ensures.value in
    let next = c.deref.ensures.value ∙ c.in_ok-next.ensures in
    let flaw = (c.in-Err-Rotation.ensures.rotation d (ap (λ e. Err e) c.in-Err-Rotation.field-0-is)).1 in
    let P : Graph → List ℕ → Type 0 = λ w xs. IsRotationFlaw w.ends (at xs) d in
    let here = subst (λ w. P w m.next) web (subst (P c.in_ok-web.web) next flaw) in
    flaws_are_no_maps m.web.nodes m.web.ends (at m.next) d here c.web.ensures.is_map.is_map
