use Rattle.std.proofs.Common.{subst, sym}
use Rattle.xn_map.specs.Listed.{ListedMap, map_of}
use Rattle.xn_map.specs.Passing.{AreTwoDarts, HasTwoDarts}
use Rattle.xn_map.proofs.Passing.{found_two}
use Rattle.xn_map.proofs.maps.Map.two_darts.Goals as goal

pub returns-then-d-e : goal.returns-then-d-e
returns-then-d-e c =
    let m = map_of c.self.inside.web c.self.inside.rings in
    let H : ListedMap → Type 0 = λ m. HasTwoDarts m c.args.v in
    let P : ListedMap → Type 0 = λ m. AreTwoDarts m c.args.v c.in-Some.d c.next-e.result in
    let dart = c.in-Some.ensures.some in
    subst P c.self.view_is
    ((found_two m c.self.invariant c.args.v (subst H (sym c.self.view_is) c.requires) c.in-Some.d c.next-e.result dart.0 dart.1 c.next-e.ensures.next).0 c.if-d-e.true)

pub returns-else-d-e : goal.returns-else-d-e
returns-else-d-e c =
    let m = map_of c.self.inside.web c.self.inside.rings in
    let H : ListedMap → Type 0 = λ m. HasTwoDarts m c.args.v in
    let P : ListedMap → Type 0 = λ m. AreTwoDarts m c.args.v c.next-e.result c.in-Some.d in
    let dart = c.in-Some.ensures.some in
    subst P c.self.view_is
    ((found_two m c.self.invariant c.args.v (subst H (sym c.self.view_is) c.requires) c.in-Some.d c.next-e.result dart.0 dart.1 c.next-e.ensures.next).1 c.if-d-e.false)
