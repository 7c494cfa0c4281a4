use Rattle.std.proofs.Common.{◌≡◌, ℕ, ◌*◌, ◌≤◌, ◌++◌, [], ◌∷◌, List, length, sym, ap, subst, ◌∙◌, arith}
use Rattle.xn_dmp.specs.Fragments.{IsStuckAt}
use Rattle.xn_dmp.specs.Growing.{Grown, IsNext}
use Rattle.xn_dmp.proofs.Reordered.{next_reordered}
use Rattle.xn_dmp.proofs.Stuck.{stuck_alone}
use Rattle.xn_dmp.proofs.embedding.turn.Goals as goal

pub force-requires : goal.force-requires
force-requires c =
    let grown = c.propose.new.growth in
    let same : length grown.placed ≡ length c.args.growth.now.placed =
    omega (arith, c.propose.ensures.longer, c.count-before.ensures.placed, c.count.ensures.placed, c.if-before-count.false) in
    let P : Grown → Type 0 = λ x. IsNext x c.args.s in
    next_reordered grown c.sort.new.self c.in_ok-sort.ensures.same c.args.s (subst P (sym (c.propose.ensures.as_before same)) c.requires)

pub returns-clause-stuck : goal.returns-clause-stuck
returns-clause-stuck c =
    let grown = c.propose.new.growth in
    let same : length grown.placed ≡ length c.args.growth.now.placed =
    omega (arith, c.propose.ensures.longer, c.count-before.ensures.placed, c.count.ensures.placed, c.if-before-count.false) in
    let P : Grown → Type 0 = λ x. IsNext x c.args.s in
    let next = next_reordered grown c.sort.new.self c.in_ok-sort.ensures.same c.args.s (subst P (sym (c.propose.ensures.as_before same)) c.requires) in
    let alone = stuck_alone c.sort.new.self c.is_free.ensures.grown c.in_ok-sort.ensures.rises c.args.s next.free (c.in_ok-force.ensures.cut_off c.if-branch.false) in
    let items = c.in_ok-push.ensures.items ∙ ap (λ xs. xs ++ c.args.s ∷ []) c.new-fragment.ensures.items in
    let Q : List ℕ → Type 0 = λ xs. IsStuckAt c.force.new.self xs in
    let R : Grown → Type 0 = λ x. IsStuckAt x (c.args.s ∷ []) in
    subst Q (sym items) (subst R (sym (c.in_ok-force.ensures.as_before c.if-branch.false)) alone)
