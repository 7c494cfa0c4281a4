use Rattle.std.proofs.Common.{◌++◌, refl, sym, ap, subst, ◌∙◌}
use Rattle.xn_model.specs.Graph.{Graph}
use Rattle.xn_genus.specs.Part.{AreSegmentsApart}
use Rattle.xn_components.specs.Flood.{ShareNoNode}
use Rattle.xn_components.specs.Listing.{LaidParts}
use Rattle.xn_components.proofs.LaidBelow.{laid_more, laid_none, laid_passed, list_apart, shares_nothing}
use Rattle.xn_planar.proofs.deciding.extend_each.Goals.{then-not-marks-s+in_ok-list+in_ok-map+in-Flat+in_ok-laid-in-Flat, else-not-marks-s}
use Rattle.xn_planar.proofs.deciding.extend_each.Goals as goal

pub lay-requires-clause-apart : goal.lay-requires-clause-apart
lay-requires-clause-apart c =
    let web = c.args.web.now in
    let loop = c.loop-s in
    let list = c.in_ok-list.list.items in
    let Q : Graph → Type 0 = λ w. AreSegmentsApart w.ends c.deref-in-Flat.result.now in
    subst Q (sym loop.invariant.web_is) (subst (AreSegmentsApart web.ends) (sym c.deref-in-Flat.ensures.value)
    (list_apart web loop.s loop.marks loop.laid loop.invariant c.component_from.new.marks list c.in_ok-list.ensures))

pub lay-requires-clause-share : goal.lay-requires-clause-share
lay-requires-clause-share c =
    let web = c.args.web.now in
    let loop = c.loop-s in
    let list = c.in_ok-list.list.items in
    let R : LaidParts → Type 0 = λ l. AreSegmentsApart l.web.ends l.order in
    let S : Graph → Type 0 = λ w. AreSegmentsApart w.ends loop.laid.order in
    let apart = subst S loop.invariant.web_is (subst R c.laid.view_is c.laid.invariant.apart) in
    let Q : Graph → Type 0 = λ w. ShareNoNode w.ends loop.laid.order c.deref-in-Flat.result.now in
    subst Q (sym loop.invariant.web_is) (subst (ShareNoNode web.ends loop.laid.order) (sym c.deref-in-Flat.ensures.value)
    (shares_nothing web loop.s loop.marks loop.laid loop.invariant c.component_from.new.marks list c.in_ok-list.ensures list
    (list_apart web loop.s loop.marks loop.laid loop.invariant c.component_from.new.marks list c.in_ok-list.ensures) (λ t low. refl) apart))

pub loop-s-init : goal.loop-s-init
loop-s-init c = laid_none c.args.web.now c.args.marks.now c.new-laid.result c.requires.none c.new-laid.ensures.web c.new-laid.ensures.none

pub loop-s-preserved : goal.loop-s-preserved
loop-s-preserved c =
    let web = c.args.web.now in
    let loop = c.loop-s in
    elim c.if-not-marks-s.branch [
      | then-not-marks-s+in_ok-list+in_ok-map+in-Flat+in_ok-laid-in-Flat w ↦
          let list = w.in_ok-list.list.items in
          let more = w.in_ok-laid-in-Flat.laid in
          let order = w.in_ok-laid-in-Flat.ensures.order ∙ ap (λ xs. loop.laid.order ++ xs) w.deref-in-Flat.ensures.value in
          rw (w.marks-is, w.laid-is)
          (laid_more web loop.s loop.marks loop.laid loop.invariant w.component_from.new.marks list w.in_ok-list.ensures list
          (list_apart web loop.s loop.marks loop.laid loop.invariant w.component_from.new.marks list w.in_ok-list.ensures) (λ t low. refl) more w.in_ok-laid-in-Flat.ensures.web order)
      | else-not-marks-s w ↦
          rw (w.marks-is, w.laid-is) (laid_passed web loop.s loop.marks loop.laid loop.invariant w.if-not-marks-s.false)
    ]
