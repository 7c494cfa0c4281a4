use Rattle.std.proofs.Common.{◌<◌, ◌/◌, ◌∙◌, ℕ, ap, arith, length, subst, sym}
use Rattle.xn_model.specs.Lists.{at}
use Rattle.xn_map.specs.Anchored.{OutlastsAt}
use Rattle.xn_map.specs.Listed.{ListedMap, map_of}
use Rattle.xn_map.proofs.Removed.{outlasts_far, outlasts_near}
use Rattle.xn_map.proofs.maps.Map.outlasting.Goals as goal

pub returns-then-after-d : goal.returns-then-after-d
returns-then-after-d c =
    let m = map_of c.self.inside.web c.self.inside.rings in
    let d_in : c.args.d < length m.next = omega (arith, c.requires, ap (λ m. length m.next) c.self.view_is) in
    let P : ListedMap → Type 0 = λ m. OutlastsAt m.web.ends (c.args.d / 2) c.args.d c.next.result in
    let Q : ℕ → Type 0 = λ x. OutlastsAt m.web.ends (c.args.d / 2) c.args.d x in
    let there = c.next.ensures.next ∙ ap (at m.next) c.next-after.ensures.next in
    subst P c.self.view_is (subst Q (sym there) (outlasts_far m c.self.invariant c.args.d d_in (sym c.next-after.ensures.next ∙ c.if-after-d.true)))

pub returns : goal.returns
returns c =
    let m = map_of c.self.inside.web c.self.inside.rings in
    let d_in : c.args.d < length m.next = omega (arith, c.requires, ap (λ m. length m.next) c.self.view_is) in
    let P : ListedMap → Type 0 = λ m. OutlastsAt m.web.ends (c.args.d / 2) c.args.d c.next-after.result in
    let Q : ℕ → Type 0 = λ x. OutlastsAt m.web.ends (c.args.d / 2) c.args.d x in
    subst P c.self.view_is
    (subst Q (sym c.next-after.ensures.next) (outlasts_near m c.self.invariant c.args.d d_in (λ same. c.if-after-d.false (c.next-after.ensures.next ∙ same))))
