-- No text that spells an answer with what a verdict asks for is refused by it.
use Rattle.std.proofs.Common.{Result, Ok, Err}
use Rattle.xn_kinds.specs.declared.flaws.Flaw.{Flaw}
use Rattle.xn_check.specs.Laws.{DrawingsAreTaken, FrontsAreTaken, ProofsAreTaken}
use Rattle.xn_check.proofs.CheckLaw.{accepted_where_spelled}
use Rattle.xn_check.proofs.DrawLaw.{drawn_where_spelled}
use Rattle.xn_check.proofs.FrontLaw.{seen_where_spelled}
use Rattle.xn_check.proofs.OneOutcome.{one_draw_verdict, one_front_verdict, one_verdict}

differ : {A : Type 0} (x : A) (flaw : Flaw) → Path (Result A Flaw) (Ok x) (Err flaw) → ⊥
differ x flaw e = absurd cc

pub fronts_are_taken : FrontsAreTaken
fronts_are_taken text seen flaw spells refused =
    differ seen flaw (one_front_verdict text (Ok seen) (Err flaw) ((seen_where_spelled text seen).1 spells) refused)

pub drawings_are_taken : DrawingsAreTaken
drawings_are_taken g loops text d flaw spells refused =
    differ d flaw (one_draw_verdict g loops text (Ok d) (Err flaw) ((drawn_where_spelled g loops text d).1 spells) refused)

pub proofs_are_taken : ProofsAreTaken
proofs_are_taken g loops text lower upper flaw spells refused =
    let accepted = (accepted_where_spelled g loops text lower upper).1 spells in
    differ (lower, upper) flaw (one_verdict g loops text (Ok (lower, upper)) (Err flaw) accepted refused)
