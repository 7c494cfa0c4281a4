use Rattle.std.proofs.Common.{sym, subst}
use Rattle.xn_programs.specs.Turns.{IsGrown}
use Rattle.xn_programs.proofs.Grown.{grown_more}
use Rattle.xn_programs.proofs.turns.turns.Goals.{in-Lost+in_ok-renew-in-Lost+else-not-branch, in-Open+in_ok-goes_on-in-Open+else-not-branch-2}
use Rattle.xn_programs.proofs.turns.turns.Goals as goal

-- in the one case the rows stay, in the other some came in
pub loop-preserved : goal.loop-preserved
loop-preserved g c =
    let graph = c.args.claim.now.graph.now in
    let first = c.args.rows.now.items in
    elim c.match-branch-2.branch [
      | in-Lost+in_ok-renew-in-Lost+else-not-branch w ↦ subst (λ rows. IsGrown graph first rows.items) (sym w.rows-is) c.loop.invariant
      | in-Open+in_ok-goes_on-in-Open+else-not-branch-2 w ↦ subst (λ rows. IsGrown graph first rows.items) (sym w.rows-is)
          (grown_more graph first c.loop.rows.items w.goes_on.new.rows.items c.loop.invariant w.in_ok-goes_on-in-Open.ensures.grown)
    ]

pub returns-then-not-branch-2-clause-grown : goal.returns-then-not-branch-2-clause-grown
returns-then-not-branch-2-clause-grown g c =
    grown_more c.args.claim.now.graph.now c.args.rows.now.items c.loop.rows.items c.goes_on.new.rows.items c.loop.invariant c.in_ok-goes_on-in-Open.ensures.grown
