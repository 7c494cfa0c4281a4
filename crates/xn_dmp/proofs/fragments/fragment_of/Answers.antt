use Rattle.std.proofs.Common.{◌≡◌, ℕ, ◌++◌, [], ◌∷◌, List, ap, subst, sym, ◌∙◌}
use Rattle.xn_dmp.specs.Fragments.{IsFound}
use Rattle.xn_dmp.proofs.Finding.{found_one}
use Rattle.xn_dmp.proofs.fragments.fragment_of.Goals as goal

pub loop-i-init : goal.loop-i-init
loop-i-init c =
    let g = c.args.growth.now in
    let items = c.in_ok-push.ensures.items ∙ ap (λ xs. xs ++ c.args.start ∷ []) c.new-segments.ensures.items in
    let P : List ℕ → Type 0 = λ xs. IsFound g xs c.new-contacts.result.items in
    subst P (sym items) (subst (IsFound g (c.args.start ∷ [])) (sym c.new-contacts.ensures.items) (found_one g c.segments-i-end.ensures.grown c.args.start c.requires))
