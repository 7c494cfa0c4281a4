use Rattle.std.proofs.Common.{length, sym, subst, ap, arith}
use Rattle.xn_insert.specs.Routed.{MarkCorners, NamesFaces}
use Rattle.xn_insert.proofs.Nearest.{least_if, marks_low, none_if}
use Rattle.xn_insert.proofs.routes.least_route.Goals as goal

pub dual_stars-requires : goal.dual_stars-requires
dual_stars-requires c =
    let known = subst (NamesFaces c.args.map.now) (sym c.as_slice-names.ensures.value) c.in_ok-names.ensures in
    let size = known.size in
    let few = c.requires in
    record {
      even = let fits = c.web.ensures.is_map.fits in omega (arith, size, fits);
      few = omega (arith, size, few);
      below = λ d low. let named = known.below d (omega (arith, low, size)) in omega (arith, named, size);
    }

pub corners_at-requires : goal.corners_at-requires
corners_at-requires c = subst (NamesFaces c.args.map.now) (sym c.as_slice-names.ensures.value) c.in_ok-names.ensures

pub corners_at-requires-2 : goal.corners_at-requires-2
corners_at-requires-2 c = subst (NamesFaces c.args.map.now) (sym c.as_slice-names.ensures.value) c.in_ok-names.ensures

pub route_between-requires : goal.route_between-requires
route_between-requires c =
    let map = c.args.map.now in
    let names = c.as_slice-names.result.now in
    let known = subst (NamesFaces map) (sym c.as_slice-names.ensures.value) c.in_ok-names.ensures in
    let goals = subst (MarkCorners map names c.args.v (length map.next)) (sym c.as_mut_slice.ensures.value) c.in_ok-by.ensures in
    let size = known.size in
    let few = c.requires in
    let as_many_starts = c.in_ok-starts.ensures.size in
    let starts_are = ap length c.as_slice.ensures.value in
    let as_many_goals = goals.size in
    record {
      few = omega (arith, size, few);
      even = let fits = c.web.ensures.is_map.fits in omega (arith, size, fits);
      dual = c.in_ok-stars.ensures;
      below = λ d low. let named = known.below d (omega (arith, low, size)) in omega (arith, named, size);
      starts = omega (arith, size, as_many_starts, starts_are);
      goals = omega (arith, size, as_many_goals);
      marks = λ x low. let marked = marks_low map names c.args.v (length map.next) c.as_mut_slice.result.now goals x (omega (arith, low, size)) in omega (arith, marked, size);
    }

pub returns : goal.returns
returns c =
    let map = c.args.map.now in
    let names = c.as_slice-names.result.now in
    let known = subst (NamesFaces map) (sym c.as_slice-names.ensures.value) c.in_ok-names.ensures in
    let starts = subst (MarkCorners map names c.args.u (length map.next)) (sym c.as_slice.ensures.value) c.in_ok-starts.ensures in
    let goals = subst (MarkCorners map names c.args.v (length map.next)) (sym c.as_mut_slice.ensures.value) c.in_ok-by.ensures in
    record {
      none = none_if map c.web.ensures.is_map names known c.args.u c.args.v c.as_slice.result.now c.as_mut_slice.result.now starts goals c.in_ok-route.route c.in_ok-route.ensures.none;
      some = least_if map c.web.ensures.is_map names known c.args.u c.args.v c.as_slice.result.now c.as_mut_slice.result.now starts goals c.in_ok-route.route (λ r. r.from) (λ r. r.to) (λ r. r.darts.items)
          c.in_ok-route.ensures.some;
    }
