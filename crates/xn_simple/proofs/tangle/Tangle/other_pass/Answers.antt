use Rattle.std.proofs.Common.{◌≡◌, ℕ, suc, Some, None, inl, inr, refl, ◌∙◌, ap, subst}
use Rattle.xn_model.specs.Lists.{at}
use Rattle.xn_simple.specs.Tangle.{IsPassOver, lists_in, walk_in}
use Rattle.xn_simple.proofs.Tangled.{other_none, other_same, other_some}
use Rattle.xn_simple.proofs.tangle.Tangle.other_pass.Goals as goal

pub returns-then-pass-i : goal.returns-then-pass-i
returns-then-pass-i c =
    let t = lists_in c.args.self.now in
    let some = c.requires.tangle in
    let p = c.in-Some.pass in
    let is : c.next.result ≡ at t.map.next (at (walk_in t c.args.e) (suc c.args.i)) = c.next.ensures.value ∙ ap (at t.map.next) c.leaving.ensures.value in
    let P : ℕ → Type 0 = λ d. IsPassOver t d (Some p) in
    other_same some.0 t some.1 c.args.e c.args.i c.requires.place c.requires.holds (Some p) (subst P is c.in-Some.ensures) p refl c.if-pass-e.true c.if-pass-i.true

pub returns-else-pass-e : goal.returns-else-pass-e
returns-else-pass-e c =
    let t = lists_in c.args.self.now in
    let some = c.requires.tangle in
    let p = c.in-Some.pass in
    let is : c.next.result ≡ at t.map.next (at (walk_in t c.args.e) (suc c.args.i)) = c.next.ensures.value ∙ ap (at t.map.next) c.leaving.ensures.value in
    let P : ℕ → Type 0 = λ d. IsPassOver t d (Some p) in
    other_some some.0 t some.1 c.args.e c.args.i c.requires.place c.requires.holds (Some p) (subst P is c.in-Some.ensures) p refl
    (λ edge place. elim c.else-pass-e.either [ inl both ↦ both.1 place | inr other ↦ other edge ])

pub returns-in-None : goal.returns-in-None
returns-in-None c =
    let t = lists_in c.args.self.now in
    let some = c.requires.tangle in
    let is : c.next.result ≡ at t.map.next (at (walk_in t c.args.e) (suc c.args.i)) = c.next.ensures.value ∙ ap (at t.map.next) c.leaving.ensures.value in
    let P : ℕ → Type 0 = λ d. IsPassOver t d None in
    other_none some.0 t some.1 c.args.e c.args.i c.requires.place c.requires.holds None (subst P is c.in-None.ensures) refl
