use Rattle.std.proofs.Common.{ap, arith, below_more, false, length, refl, subst, sym, ◌∙◌}
use Rattle.std.proofs.lemmas.Bool.{both_ways}
use Rattle.xn_brute.specs.Found.{CanTurn, may_lead}
use Rattle.xn_brute.proofs.Tries.{next_turn}
use Rattle.xn_brute.proofs.rotations.+turns_from.Goals as goal
use Rattle.xn_brute.proofs.rotations.+turns_from.Goals.{else-may_lead-via-then-may_lead+in_ok-appended+in_ok-turns_from+else-branch, else-may_lead-via-else-may_lead}

pub loop-d-preserved : goal.loop-d-preserved
loop-d-preserved t c = below_more _ _ c.loop-d.invariant (λ leads.
    let g = c.args.trial.now.graph.now in
    let lists = c.args.trial.now.orders.now in
    elim c.else-may_lead.branch [
      | else-may_lead-via-then-may_lead+in_ok-appended+in_ok-turns_from+else-branch w ↦
          both_ways _ w.if-branch.false (w.in_ok-turns_from.ensures.1 (subst (CanTurn g lists) (sym (w.deref.ensures.value ∙ w.in_ok-appended.ensures)) leads.can))
      | else-may_lead-via-else-may_lead w ↦
          both_ways _ w.if-may_lead.false (c.may_lead.ensures ∙ ap (λ ends. may_lead ends c.args.turns.now c.loop-d.d) c.requires.ends ∙ leads.may)
    ])

pub returns : goal.returns
returns t c = (
  λ no. absurd (both_ways false refl no),
  λ can.
      let g = c.args.trial.now.graph.now in
      let lists = c.args.trial.now.orders.now in
      let size = ap length c.requires.ends in
      let next = next_turn g lists c.args.turns.now (omega (arith, size)) can in
      absurd (c.loop-d.invariant next.0 (omega (arith, size, next.1.below)) next.1),
)
