use Rattle.std.proofs.lemmas.Result.{err_from_is_err_and}
use Rattle.std.proofs.Common.{length}
use Rattle.xn_proof.specs.Proofs.{nodes_at}
use Rattle.xn_proof.proofs.Nodes.{nodes_on, nodes_stop_line, nodes_stop_node, nodes_done}
use Rattle.xn_proof.proofs.tree.nodes.Goals as goal

pub returns-in_err-number : goal.returns-in_err-number
returns-in_err-number c =
    let p = err_from_is_err_and c.from_residual.result c.from_residual.ensures.1 in
    let i = c.loop-nodes.invariant in
    let total = nodes_at c.args.edges c.args.rows (length c.args.reader.now.1) c.args.reader.now in
    rw (p.1, p.2) (nodes_stop_line c.in_err-number.field-0.0 c.args.edges c.args.rows i.most c.loop-nodes.nodes.items c.loop-nodes.reader total i.enough c.in_err-number.ensures i.read)

pub returns-in_err-node : goal.returns-in_err-node
returns-in_err-node c =
    let p = err_from_is_err_and c.from_residual-in_err-node.result c.from_residual-in_err-node.ensures.1 in
    let i = c.loop-nodes.invariant in
    let total = nodes_at c.args.edges c.args.rows (length c.args.reader.now.1) c.args.reader.now in
    rw (p.1, p.2) (nodes_stop_node c.in_err-node.field-0.0 c.args.edges c.args.rows i.most c.loop-nodes.nodes.items c.loop-nodes.reader (c.in_ok-number.number, c.in_ok-number.line.now) c.line.new.self total i.enough c.in_ok-number.ensures c.in_err-node.ensures i.read)

pub loop-nodes-preserved : goal.loop-nodes-preserved
loop-nodes-preserved c =
    let i = c.loop-nodes.invariant in
    let total = nodes_at c.args.edges c.args.rows (length c.args.reader.now.1) c.args.reader.now in
    let on = nodes_on c.args.edges c.args.rows i.most c.loop-nodes.nodes.items c.loop-nodes.reader (c.in_ok-number.number, c.in_ok-number.line.now) c.line.new.self c.in-Some.node total i.enough c.in_ok-number.ensures (rw c.in-Some.is at c.in_ok-node.ensures) i.read in
    record { most = on.most; enough = on.enough; read = rw c.in_ok-push-in-Some.ensures.items on.read }

pub returns-in-None : goal.returns-in-None
returns-in-None c =
    let i = c.loop-nodes.invariant in
    let total = nodes_at c.args.edges c.args.rows (length c.args.reader.now.1) c.args.reader.now in
    nodes_done c.args.edges c.args.rows i.most c.loop-nodes.nodes.items c.loop-nodes.reader (c.in_ok-number.number, c.in_ok-number.line.now) c.line.new.self total i.enough c.in_ok-number.ensures (rw c.in-None.is at c.in_ok-node.ensures) i.read
