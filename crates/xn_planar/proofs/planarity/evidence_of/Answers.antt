use Rattle.std.proofs.Common.{length, refl, sym, subst}
use Rattle.xn_genus.specs.Part.{AreSegmentsApart}
use Rattle.xn_planar.proofs.Rising.{apart_from_rise}
use Rattle.xn_planar.proofs.planarity.evidence_of.Goals as goal

pub evidence_within-requires : goal.evidence_within-requires
evidence_within-requires c =
    let web = c.args.web.now in
    let core = c.in_ok-core.core.items in
    subst (AreSegmentsApart web.ends) (sym c.deref.ensures.value) (apart_from_rise web.ends core (length web.ends) c.in_ok-core.ensures.rises refl)
