use Rattle.std.proofs.Common.{◌≡◌, ◌-◌, ℕ, suc, arith, subst}
use Rattle.xn_model.specs.Graph.{EndsIn}
use Rattle.xn_map.proofs.Passing.{loses_node, lost_ends}
use Rattle.xn_map.proofs.maps.passing.lose_node.Goals as goal

pub remove_node-requires-clause-lone : goal.remove_node-requires-clause-lone
remove_node-requires-clause-lone c =
    let last = c.nodes-last.result - 1 in
    let last_is : suc last ≡ c.args.web.now.nodes = omega (arith, c.requires.node, c.nodes-last.ensures.value) in
    let same : last ≡ c.move_node.new.web.nodes - 1 = omega (arith, c.move_node.ensures.same_nodes, c.nodes-last.ensures.value) in
    let P : ℕ → Type 0 = λ k. EndsIn k c.move_node.new.web.ends in
    subst P same
    (lost_ends c.args.v last c.args.web.now c.move_node.new.web c.nodes-last.ensures.limited.ends_in c.requires.node c.requires.lone last_is c.move_node.ensures)

pub returns : goal.returns
returns c =
    let last = c.nodes-last.result - 1 in
    let last_is : suc last ≡ c.args.web.now.nodes = omega (arith, c.requires.node, c.nodes-last.ensures.value) in
    loses_node c.args.v last c.args.web.now c.move_node.new.web c.nodes-last.ensures.limited.ends_in c.requires.node c.requires.lone last_is c.move_node.ensures
    c.remove_node.new.self c.remove_node.ensures
