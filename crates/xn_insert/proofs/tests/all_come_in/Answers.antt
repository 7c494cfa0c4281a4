use Rattle.std.proofs.Common.{inl, inr, sym, ap, ◌∙◌, false, refl, arith}
use Rattle.std.proofs.lemmas.Bool.{both_ways, cases_Bool}
use Rattle.xn_model.specs.Lists.{has}
use Rattle.xn_insert.specs.ListedLoose.{edges_in}
use Rattle.xn_insert.proofs.tests.all_come_in.Goals as goal

pub loop-e-init : goal.loop-e-init
loop-e-init g c =
    let made = c.in_ok-loose.ensures in
    record { loose = made.0; before = λ x h. absurd (both_ways false refl (sym (ap (λ es. has es x) made.1) ∙ h)) }

pub insert-requires-clause-new : goal.insert-requires-clause-new
insert-requires-clause-new g c = elim (cases_Bool (has (edges_in c.loop-e.loose) c.loop-e.e)) [
  | inl there ↦ let low = c.loop-e.invariant.before c.loop-e.e there in absurd (omega (arith, low))
  | inr out ↦ out
]

pub loop-e-preserved : goal.loop-e-preserved
loop-e-preserved g c =
    let more = c.in_ok-insert.ensures.ok in
    record {
      loose = more.loose;
      before = λ x h. elim (more.one_more.only x h) [
        | inl is ↦ omega (arith, is)
        | inr old ↦ let low = c.loop-e.invariant.before x old in omega (arith, low)
      ];
    }
