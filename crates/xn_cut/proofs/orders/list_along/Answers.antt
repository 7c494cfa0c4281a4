use Rattle.std.proofs.Common.{List, ℕ, subst}
use Rattle.std.specs.Prelude.{IsPermutation}
use Rattle.xn_cut.proofs.orders.list_along.Goals as goal

pub returns : goal.returns
returns c = subst (λ (xs : List ℕ). IsPermutation xs c.sort.new.list.items) c.in_ok-list.ensures c.sort.ensures
