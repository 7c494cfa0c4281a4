use Rattle.std.proofs.Common.{ℕ, List, ap, subst}
use Rattle.xn_model.specs.Lists.{at}
use Rattle.xn_draw.specs.Touches.{NoTouch, TouchesFirst}
use Rattle.xn_draw.proofs.FirstFlaws.{all_cross, first_touch}
use Rattle.xn_draw.proofs.examining.check_crossings.Goals as goal

pub returns-in-None : goal.returns-in-None
returns-in-None c =
    let d = c.args.drawing.now in
    let none : List ℕ → Type 0 = λ next. NoTouch d.orders (at next) in
    all_cross c.args.graph.now d.orders d.next c.requires.has_map (subst none (ap (λ m. m.next) c.requires.map) c.in-None.ensures)

pub returns-in-Some : goal.returns-in-Some
returns-in-Some c =
    let d = c.args.drawing.now in
    let named : List ℕ → Type 0 = λ next. TouchesFirst d.orders (at next) c.in-Some.e c.in-Some.f in
    (c.requires.has_map, first_touch c.args.graph.now d.orders d.next c.requires.has_map c.in-Some.e c.in-Some.f (subst named (ap (λ m. m.next) c.requires.map) c.in-Some.ensures))
