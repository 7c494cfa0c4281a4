use Rattle.std.proofs.Common.{◌∙◌, ◌++◌, ap, length}
use Rattle.xn_model.specs.Lists.{at}
use Rattle.xn_model.specs.Permutation.{walk}
use Rattle.xn_show.specs.Text.{node_line}
use Rattle.xn_show.specs.Turns.{turn_of}
use Rattle.xn_show.proofs.Appended.{each_more}
use Rattle.xn_show.proofs.TurnSteps.{stays_in}
use Rattle.xn_show.proofs.text.put_nodes.Goals as goal

pub put_node-requires : goal.put_node-requires
put_node-requires c = stays_in c.args.stars.now.ends c.args.next.now c.at.result.now c.loop-v.v c.at.ensures c.requires.turns

pub loop-v-preserved : goal.loop-v-preserved
loop-v-preserved c =
    let v = c.loop-v.v in
    let next = at c.args.next.now in
    each_more (λ u. node_line c.args.ids.now u (turn_of c.args.stars.now.ends next u)) v c.args.to.now.items c.loop-v.to.items c.put_node.new.to.items c.loop-v.invariant
    (c.in_ok-put_node.ensures ∙ ap (λ star. c.loop-v.to.items ++ node_line c.args.ids.now v (walk next (length star) (at star 0))) c.at.ensures)
