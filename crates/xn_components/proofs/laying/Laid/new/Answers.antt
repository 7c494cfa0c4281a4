use Rattle.std.proofs.Common.{◌≡◌, ℕ, List, [], sym, subst}
use Rattle.xn_components.specs.Listing.{IsLaid}
use Rattle.xn_components.proofs.Bare.{laid_bare}
use Rattle.xn_components.proofs.laying.Laid.new.Goals as goal

pub invariant_of-result : goal.invariant_of-result
invariant_of-result c =
    let web = c.args.web.now in
    subst (λ xs. IsLaid web xs c.new-2.result.items) (sym c.new.ensures.items) (subst (IsLaid web []) (sym c.new-2.ensures.items) (laid_bare web))
