use Rattle.std.proofs.Common.{◌≡◌, true, false, sym, subst}
use Rattle.xn_model.specs.Insertion.{is_old}
use Rattle.xn_dmp.specs.Growing.{Grown, grown_of}
use Rattle.xn_dmp.proofs.Placing.{new_if_no_dart, old_if_dart}
use Rattle.xn_dmp.proofs.growing.Growth.is_old.Goals as goal

pub returns-in-Some : goal.returns-in-Some
returns-in-Some c =
    let inside = c.self.inside in
    let g = grown_of inside.web.now inside.map inside.placed.items inside.free.items in
    let P : Grown → Type 0 = λ x. true ≡ is_old x.web.ends x.placed c.args.v in
    subst P c.self.view_is (sym (old_if_dart g c.self.invariant.1 c.args.v c.in-Some.field-0 c.in-Some.ensures.some))

pub returns-in-None : goal.returns-in-None
returns-in-None c =
    let inside = c.self.inside in
    let g = grown_of inside.web.now inside.map inside.placed.items inside.free.items in
    let P : Grown → Type 0 = λ x. false ≡ is_old x.web.ends x.placed c.args.v in
    subst P c.self.view_is (sym (new_if_no_dart g c.self.invariant.1 c.args.v c.in-None.ensures.none))
