use Rattle.std.proofs.Common.{◌≡◌, false, length, refl, sym, ◌∙◌, ap, arith}
use Rattle.std.proofs.lemmas.Bool.{both_ways, eqb-true}
use Rattle.xn_insert.specs.ListedLoose.{walk_of}
use Rattle.xn_insert.proofs.Started.{all_in, empty_out}
use Rattle.xn_insert.proofs.loose.Loose.whole.Goals as goal

pub returns-then-is_empty : goal.returns-then-is_empty
returns-then-is_empty c =
    let l = c.args.self.now in
    let e = c.loop-e.e in
    let walks = ap (λ v. v.walks) c.self.view_is in
    let size = ap length walks in
    let none : length c.at.result.now ≡ 0 = eqb-true _ _ (sym c.is_empty.ensures ∙ c.if-is_empty.true) in
    let here : length (walk_of l.walks e) ≡ 0 = sym (ap length (c.at.ensures ∙ ap (λ ws. walk_of ws e) walks)) ∙ none in
    (λ t. absurd (both_ways false refl t), λ all. absurd (empty_out l e (omega (arith, size)) here all))

pub returns : goal.returns
returns c =
    let l = c.args.self.now in
    let size = ap (λ v. length v.walks) c.self.view_is in
    (λ t. all_in l (λ x low. c.loop-e.invariant x (omega (arith, low, size))), λ all. refl)
