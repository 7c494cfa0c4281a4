use Rattle.std.proofs.Common.{inl, inr}
use Rattle.xn_draw.proofs.Decided.{drawn_or_flawed}
use Rattle.xn_draw.proofs.Excluded.{no_flaw, one_flaw}
use Rattle.xn_draw.proofs.laws.first_flaws.Goals as goal

pub returns-clause-either : goal.returns-clause-either
returns-clause-either c = drawn_or_flawed

pub returns-clause-exactly : goal.returns-clause-exactly
returns-clause-exactly c g lists next is_graph =
    (no_flaw g lists next, λ none. elim (drawn_or_flawed g lists next is_graph) [ inl drawing ↦ drawing | inr flaw ↦ absurd (none flaw.0 flaw.1) ])

pub returns-clause-one : goal.returns-clause-one
returns-clause-one c = one_flaw
