use Rattle.std.proofs.Common.{◌≡◌, List, ℕ, length, sym, ap, subst, ◌∙◌}
use Rattle.std.specs.List.{range_with_len}
use Rattle.xn_model.specs.Graph.{Graph}
use Rattle.xn_model.specs.Lists.{has}
use Rattle.xn_genus.specs.Part.{AreSegmentsApart}
use Rattle.xn_map.specs.Listed.{ListedMap}
use Rattle.xn_components.specs.Listing.{IsFlatMapOf, LaidParts, ListsAll}
use Rattle.xn_components.proofs.AllListed.{all_apart, all_as_many, all_same, all_web}
use Rattle.xn_components.proofs.laying.Laid.map.Goals as goal

Whole : LaidParts → Type 0
Whole laid = ListsAll laid.web.ends laid.order

pub rearranged-requires-clause-apart : goal.rearranged-requires-clause-apart
unfolding Whole
rearranged-requires-clause-apart c =
    let web = c.self.inside.web.now in
    let order = c.self.inside.order.items in
    let lists = subst Whole (sym c.self.view_is) c.requires.all in
    let is = c.deref-3.ensures.value ∙ c.in_ok-all.ensures ∙ ap (range_with_len 0) c.segments.ensures.value in
    all_apart web order c.deref-3.result.now c.self.invariant.apart lists is

pub rearranged-requires-clause-as_many : goal.rearranged-requires-clause-as_many
unfolding Whole
rearranged-requires-clause-as_many c =
    let web = c.self.inside.web.now in
    let order = c.self.inside.order.items in
    let lists = subst Whole (sym c.self.view_is) c.requires.all in
    let is = c.deref-3.ensures.value ∙ c.in_ok-all.ensures ∙ ap (range_with_len 0) c.segments.ensures.value in
    all_as_many web order c.deref-3.result.now c.self.invariant.apart lists is ∙ ap length (sym c.deref.ensures.value)

pub rearranged-requires-clause-same : goal.rearranged-requires-clause-same
unfolding Whole
rearranged-requires-clause-same c = λ s.
    let web = c.self.inside.web.now in
    let order = c.self.inside.order.items in
    let lists = subst Whole (sym c.self.view_is) c.requires.all in
    let is = c.deref-3.ensures.value ∙ c.in_ok-all.ensures ∙ ap (range_with_len 0) c.segments.ensures.value in
    all_same web order c.deref-3.result.now c.self.invariant.apart lists is s ∙ ap (λ xs. has xs s) (sym c.deref.ensures.value)

pub returns : goal.returns
unfolding Whole
returns c =
    let web = c.self.inside.web.now in
    let order = c.self.inside.order.items in
    let lists = subst Whole (sym c.self.view_is) c.requires.all in
    let is = c.deref-3.ensures.value ∙ c.in_ok-all.ensures ∙ ap (range_with_len 0) c.segments.ensures.value in
    let P : Graph → Type 0 = λ w. IsFlatMapOf w c.in_ok-map.map in
    let Q : LaidParts → Type 0 = λ l. P l.web in
    let here : P web = subst P (all_web web order c.deref-3.result.now c.self.invariant.apart lists is) c.in_ok-map.ensures.flat_map in
    subst Q c.self.view_is here
