use Rattle.std.proofs.Common.{◌≡◌, ℕ, ◌+◌, ◌*◌, ◌<◌, ◌≤◌, ◌++◌, [], ◌∷◌, List, Bool, false, set, length, sym, ap, subst, ◌∙◌, arith}
use Rattle.xn_dmp.specs.Growing.{Grown, Grows, IsGrown, MayPlace, grown_of}
use Rattle.xn_dmp.proofs.Placing.{count_is, few_more, grown_more, grows_more, one_face, taken}
use Rattle.xn_dmp.proofs.growing.Growth.put.Goals as goal

pub add_edge-requires-clause-few : goal.add_edge-requires-clause-few
add_edge-requires-clause-few c =
    let inside = c.self.inside in
    let g = grown_of inside.web.now inside.map inside.placed.items inside.free.items in
    let P : Grown → Type 0 = λ x. MayPlace x c.args.s c.args.first c.args.second in
    let may = subst P (sym c.self.view_is) c.requires in
    let is = c.web.ensures.is_map in
    omega (arith, few_more g c.self.invariant.1 c.args.s may.free, count_is g c.self.invariant.1 is, is.fits, c.segments.ensures.limited.few_segments)

pub add_edge-requires-clause-one_face : goal.add_edge-requires-clause-one_face
add_edge-requires-clause-one_face c =
    let inside = c.self.inside in
    let g = grown_of inside.web.now inside.map inside.placed.items inside.free.items in
    let P : Grown → Type 0 = λ x. MayPlace x c.args.s c.args.first c.args.second in
    let may = subst P (sym c.self.view_is) c.requires in
    one_face g c.self.invariant.1 c.args.s may.free c.web.ensures.is_map c.args.first c.args.second may

pub invariant_of-self-2 : goal.invariant_of-self-2
invariant_of-self-2 c =
    let inside = c.self.inside in
    let g = grown_of inside.web.now inside.map inside.placed.items inside.free.items in
    let P : Grown → Type 0 = λ x. MayPlace x c.args.s c.args.first c.args.second in
    let may = subst P (sym c.self.view_is) c.requires in
    let items = c.push_reserved.ensures.items ∙ ap (λ xs. xs ++ c.args.s ∷ []) c.in_ok-reserve.ensures.items in
    let Q : List ℕ → Type 0 = λ xs. IsGrown (grown_of inside.web.now c.add_edge.new.self xs (set inside.free.items c.args.s false)) in (
      c.self.invariant.0,
      subst Q (sym items)
          (grown_more g c.self.invariant.1 c.args.s may.free c.web.ensures.is_map c.args.first c.args.second may c.add_edge.new.self c.web-2.ensures.is_map c.in_ok-add_edge.ensures.ok c.in_ok-add_edge.ensures.flat),
    )
