use Rattle.std.proofs.Common.{length, arith}
use Rattle.std.specs.List.{concat}
use Rattle.xn_kura.proofs.Found.{paths_in_evidence, uses_exactly}
use Rattle.xn_kura.proofs.Proposals.{at_most_all}
use Rattle.xn_kura.proofs.kinds.uses_all.Goals as goal

pub segments_in-requires : goal.segments_in-requires
segments_in-requires c =
    let web = c.args.web.now in
    let paths = c.in-Five.paths in
    let are = paths_in_evidence web c.args.evidence.now paths c.requires.holds c.in-Five.is in
    omega (arith, at_most_all (length web.ends) (concat paths) are.once are.below, c.segments.ensures.limited.few_segments)

pub returns-in-Five : goal.returns-in-Five
returns-in-Five c =
    let web = c.args.web.now in
    let paths = c.in-Five.paths in
    let are = paths_in_evidence web c.args.evidence.now paths c.requires.holds c.in-Five.is in
    uses_exactly web c.args.evidence.now paths are c.segments.result c.segments_in.result c.segments.ensures.value c.segments_in.ensures
