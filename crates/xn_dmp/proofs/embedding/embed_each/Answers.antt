use Rattle.std.proofs.Common.{◌≡◌, ℕ, ◌+◌, ◌<◌, ◌++◌, List, length, sym, ap, subst, ◌∙◌}
use Rattle.xn_model.specs.Graph.{Graph}
use Rattle.xn_model.specs.Lists.{has}
use Rattle.xn_genus.specs.Part.{AreSegmentsApart}
use Rattle.xn_components.specs.Flood.{ShareNoNode}
use Rattle.xn_components.specs.Listing.{LaidParts}
use Rattle.xn_components.proofs.LaidBelow.{laid_more, laid_passed, shares_nothing}
use Rattle.xn_dmp.specs.Attempts.{PlacesAll}
use Rattle.xn_dmp.proofs.embedding.embed_each.Goals.{then-not-marks-s+in_ok-list+in_ok-growth+in-Whole+in_ok-laid-in-Whole, else-not-marks-s}
use Rattle.xn_dmp.proofs.embedding.embed_each.Goals as goal

pub lay-requires-clause-share : goal.lay-requires-clause-share
lay-requires-clause-share c =
    let web = c.args.web.now in
    let loop = c.loop-s in
    let list = c.in_ok-list.list.items in
    let growth = c.in-Whole.growth in
    let R : LaidParts → Type 0 = λ l. AreSegmentsApart l.web.ends l.order in
    let S : Graph → Type 0 = λ w. AreSegmentsApart w.ends loop.laid.order in
    let apart = subst S loop.invariant.web_is (subst R c.laid.view_is c.laid.invariant.apart) in
    let places : PlacesAll web c.deref.result.now growth = rw c.in-Whole.is at c.in_ok-growth.ensures in
    let T : Graph → Type 0 = λ w. AreSegmentsApart w.ends growth.placed in
    let placed_apart = subst T places.web_is c.placed.ensures.grown.apart in
    let same : (t : ℕ) → t < length web.ends → has growth.placed t ≡ has list t = λ t t_in. places.all t t_in ∙ ap (λ xs. has xs t) c.deref.ensures.value in
    let Q : Graph → Type 0 = λ w. ShareNoNode w.ends loop.laid.order c.placed.result.now in
    subst Q (sym loop.invariant.web_is) (subst (ShareNoNode web.ends loop.laid.order) (sym c.placed.ensures.value)
    (shares_nothing web loop.s loop.marks loop.laid loop.invariant c.component_from.new.marks list c.in_ok-list.ensures growth.placed placed_apart same apart))

pub loop-s-preserved : goal.loop-s-preserved
loop-s-preserved c =
    let web = c.args.web.now in
    let loop = c.loop-s in
    elim c.if-not-marks-s.branch [
      | then-not-marks-s+in_ok-list+in_ok-growth+in-Whole+in_ok-laid-in-Whole w ↦
          let list = w.in_ok-list.list.items in
          let growth = w.in-Whole.growth in
          let more = w.in_ok-laid-in-Whole.laid in
          let places : PlacesAll web w.deref.result.now growth = rw w.in-Whole.is at w.in_ok-growth.ensures in
          let T : Graph → Type 0 = λ x. AreSegmentsApart x.ends growth.placed in
          let placed_apart = subst T places.web_is w.placed.ensures.grown.apart in
          let same : (t : ℕ) → t < length web.ends → has growth.placed t ≡ has list t = λ t t_in. places.all t t_in ∙ ap (λ xs. has xs t) w.deref.ensures.value in
          let order = w.in_ok-laid-in-Whole.ensures.order ∙ ap (λ xs. loop.laid.order ++ xs) w.placed.ensures.value in
          rw (w.marks-is, w.laid-is)
          (laid_more web loop.s loop.marks loop.laid loop.invariant w.component_from.new.marks list w.in_ok-list.ensures growth.placed placed_apart same more
          w.in_ok-laid-in-Whole.ensures.web order)
      | else-not-marks-s w ↦
          rw (w.marks-is, w.laid-is) (laid_passed web loop.s loop.marks loop.laid loop.invariant w.if-not-marks-s.false)
    ]
