use Rattle.std.proofs.Common.{sym, subst}
use Rattle.xn_model.specs.Graph.{Graph, HasNoLoop}
use Rattle.xn_genus.specs.Part.{AreSegmentsApart}
use Rattle.xn_components.proofs.LaidBelow.{no_loop_listed}
use Rattle.xn_planar.proofs.cores.stuck_block.Goals as goal

pub try_embed-requires : goal.try_embed-requires
try_embed-requires c =
    let web = c.args.web.now in
    let apart = subst (AreSegmentsApart web.ends) (sym c.deref.ensures.value) c.in_ok-names.ensures in
    let P : Graph → Type 0 = λ w. HasNoLoop w.ends in
    subst P (sym c.in_ok-listed.ensures.web) (no_loop_listed web c.deref.result.now c.requires apart)

pub block_of-requires-clause-no_loop : goal.block_of-requires-clause-no_loop
block_of-requires-clause-no_loop c =
    let web = c.args.web.now in
    let apart = subst (AreSegmentsApart web.ends) (sym c.deref.ensures.value) c.in_ok-names.ensures in
    let P : Graph → Type 0 = λ w. HasNoLoop w.ends in
    subst P (sym c.in_ok-listed.ensures.web) (no_loop_listed web c.deref.result.now c.requires apart)
