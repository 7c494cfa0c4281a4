use Rattle.std.proofs.Common.{ap, arith, ◌∙◌}
use Rattle.std.proofs.lemmas.Result.{IfOk-weaker}
use Rattle.xn_list.specs.Lists.{lists_of}
use Rattle.xn_brute.proofs.AtMost.{says_within}
use Rattle.xn_brute.proofs.searches.has_drawing_within.Goals as goal

pub returns : goal.returns
returns c =
    IfOk-weaker c.lists_from.result _ _
    (says_within c.all_drawings.ensures.least c.all_drawings.ensures.most c.args.graph.now c.nodes-nodes.ensures.limited.is_graph c.args.most _ _ (omega (arith, c.from.ensures)) (c.new-none.ensures ∙ ap lists_of c.new.ensures.items)) c.lists_from.ensures
