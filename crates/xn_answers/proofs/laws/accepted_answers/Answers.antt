use Rattle.std.proofs.Common.{refl}
use Rattle.xn_proof.specs.Spelling.{text_of}
use Rattle.xn_answers.proofs.laws.accepted_answers.Goals as goal

pub returns : goal.returns
returns c = λ a well_formed proved.
    (c.accepted_where_spelled.ensures a.graph a.loops (text_of a) a.lower a.upper).1 (
      a,
      record {
        well_formed = well_formed;
        text_is = refl;
        same_graph = refl;
        same_loops = refl;
        drawing = proved.drawing;
        crossings = proved.crossings;
      },
      refl,
      refl,
      proved.accepted,
    )
