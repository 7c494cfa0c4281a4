use Rattle.std.proofs.Common.{◌∙◌, ap, inl, refl, subst, sym}
use Rattle.xn_model.specs.Lists.{has}
use Rattle.xn_kinds.specs.State.{Crosses}
use Rattle.xn_tree.proofs.tests.states.a_pair_is_decided_and_placed.Goals as goal

pub decide-requires-clause-undecided : goal.decide-requires-clause-undecided
decide-requires-clause-undecided g c = ap (λ s. s.decided 0 5) c.in_ok-given.ensures.state

pub place-requires-clause-crosses : goal.place-requires-clause-crosses
place-requires-clause-crosses g c = subst (λ s. Crosses s 0 5) (sym c.decide.ensures.state) (inl refl)

pub place-requires-clause-out : goal.place-requires-clause-out
place-requires-clause-out g c =
    ap (λ s. has (s.placed 0) 5) c.decide.ensures.state ∙ ap (λ s. has (s.placed 0) 5) c.in_ok-given.ensures.state
