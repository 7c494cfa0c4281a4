use Rattle.std.proofs.Common.{sym, subst, ◌∙◌}
use Rattle.xn_model.specs.Graph.{Graph, HasNoLoop}
use Rattle.xn_genus.specs.Part.{AreSegmentsApart}
use Rattle.xn_components.proofs.LaidBelow.{no_loop_listed}
use Rattle.xn_planar.proofs.shrinking.has_flat_front.Goals as goal

pub has_flat_map-requires : goal.has_flat_map-requires
has_flat_map-requires c =
    let web = c.args.web.now in
    let apart = subst (AreSegmentsApart web.ends) (sym (c.deref.ensures.value ∙ c.in_ok-list.ensures)) c.requires.apart in
    let P : Graph → Type 0 = λ w. HasNoLoop w.ends in
    subst P (sym c.in_ok-listed.ensures.web) (no_loop_listed web c.deref.result.now c.requires.no_loop apart)
