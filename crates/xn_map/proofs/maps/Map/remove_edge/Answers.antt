use Rattle.std.proofs.Common.{◌≡◌, ◌+◌, ◌-◌, ◌*◌, ◌/◌, ◌<◌, List, ℕ, suc, ap, arith, length, subst, sym}
use Rattle.xn_map.specs.Anchored.{OutlastsAt}
use Rattle.xn_map.specs.Changes.{Deletes}
use Rattle.xn_map.specs.Listed.{ListedMap, map_of}
use Rattle.xn_map.proofs.Removed.{deletes, is_out, removed_listed}
use Rattle.xn_map.proofs.maps.Map.remove_edge.Goals as goal

pub fill-requires-clause-out : goal.fill-requires-clause-out
fill-requires-clause-out c =
    let m = map_of c.self.inside.web c.self.inside.rings in
    let s_in : c.args.s < length m.web.ends = omega (arith, c.requires, ap (λ m. length m.web.ends) c.self.view_is) in
    let last_is : suc (c.segments-last.result - 1) ≡ length m.web.ends = omega (arith, c.segments-last.ensures.value, s_in) in
    is_out m c.self.invariant c.args.s (c.segments-last.result - 1) s_in last_is c.take_out.new.rings c.take_out-2.new.rings c.take_out.ensures c.take_out-2.ensures

pub invariant_of-self : goal.invariant_of-self
invariant_of-self c =
    let m = map_of c.self.inside.web c.self.inside.rings in
    let s_in : c.args.s < length m.web.ends = omega (arith, c.requires, ap (λ m. length m.web.ends) c.self.view_is) in
    let last_is : suc (c.segments-last.result - 1) ≡ length m.web.ends = omega (arith, c.segments-last.ensures.value, s_in) in
    removed_listed m c.self.invariant c.args.s (c.segments-last.result - 1) s_in last_is c.take_out.new.rings c.take_out-2.new.rings c.take_out.ensures c.take_out-2.ensures
    c.fill.new.rings c.shrink.new.self c.fill.ensures c.shrink.ensures c.remove_segment.new.self c.remove_segment.ensures

pub returns-clause-deleted : goal.returns-clause-deleted
returns-clause-deleted c =
    let m = map_of c.self.inside.web c.self.inside.rings in
    let s_in : c.args.s < length m.web.ends = omega (arith, c.requires, ap (λ m. length m.web.ends) c.self.view_is) in
    let last_is : suc (c.segments-last.result - 1) ≡ length m.web.ends = omega (arith, c.segments-last.ensures.value, s_in) in
    let P : ListedMap → Type 0 = λ m. Deletes m c.args.s (map_of c.remove_segment.new.self c.shrink.new.self) in
    subst P c.self.view_is
    (deletes m c.self.invariant c.args.s (c.segments-last.result - 1) s_in last_is c.take_out.new.rings c.take_out-2.new.rings c.take_out.ensures c.take_out-2.ensures
    c.fill.new.rings c.shrink.new.self c.fill.ensures c.shrink.ensures c.remove_segment.new.self c.remove_segment.ensures)

pub remove_segment-requires-clause-first : goal.remove_segment-requires-clause-first
remove_segment-requires-clause-first c =
    let ends = ap (λ m. m.web.ends) c.self.view_is in
    let half : (2 * c.args.s) / 2 ≡ c.args.s = omega arith in
    let P : List (ℕ × ℕ) → Type 0 = λ ends. OutlastsAt ends c.args.s (2 * c.args.s) c.outlasting-first.result in
    let Q : ℕ → Type 0 = λ k. OutlastsAt c.args.self.now.web.ends k (2 * c.args.s) c.outlasting-first.result in
    subst P (sym ends) (subst Q half c.outlasting-first.ensures)

pub remove_segment-requires-clause-second : goal.remove_segment-requires-clause-second
remove_segment-requires-clause-second c =
    let ends = ap (λ m. m.web.ends) c.self.view_is in
    let half : (2 * c.args.s + 1) / 2 ≡ c.args.s = omega arith in
    let P : List (ℕ × ℕ) → Type 0 = λ ends. OutlastsAt ends c.args.s (2 * c.args.s + 1) c.outlasting-second.result in
    let Q : ℕ → Type 0 = λ k. OutlastsAt c.args.self.now.web.ends k (2 * c.args.s + 1) c.outlasting-second.result in
    subst P (sym ends) (subst Q half c.outlasting-second.ensures)
