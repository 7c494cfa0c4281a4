use Rattle.std.proofs.Common.{arith}
use Rattle.std.proofs.lemmas.Grind.{common_steps}
use Rattle.std.proofs.lemmas.Result.{err_from_is_err_and}
use Rattle.xn_graph.specs.Limits.{IsEdge}
use Rattle.xn_proof.specs.Fronts.{edge_at}
use Rattle.xn_proof.specs.Reading.{many_at}
use Rattle.xn_proof.proofs.Loop.{goes_on, stops, is_done}
use Rattle.xn_proof.proofs.Steps.{all_push}
use Rattle.xn_proof.proofs.items.edge_lines.Goals as goal

pub returns-in_err-edge_line-clause-read : goal.returns-in_err-edge_line-clause-read
returns-in_err-edge_line-clause-read c =
    let p = err_from_is_err_and c.from_residual.result c.from_residual.ensures.1 in
    let item = edge_at c.args.nodes in
    rw (p.1, p.2) (stops item c.in_err-edge_line.field-0.0 c.loop-edge.ends.items c.args.count c.loop-edge.edge c.loop-edge.reader (many_at item 0 c.args.count c.args.reader.now) c.loop-edge-test.true c.in_err-edge_line.ensures.read c.loop-edge.invariant.read)

pub loop-edge-preserved : goal.loop-edge-preserved
loop-edge-preserved c =
    let item = edge_at c.args.nodes in
    record {
      read = rw c.in_ok-push.ensures.items (goes_on item c.loop-edge.ends.items c.args.count c.loop-edge.edge c.loop-edge.reader c.in_ok-edge_line.field-0 c.edge_line.new.reader (many_at item 0 c.args.count c.args.reader.now) c.loop-edge-test.true c.in_ok-edge_line.ensures.read c.loop-edge.invariant.read);
      count = grind (arith, common_steps);
      inside = rw c.in_ok-push.ensures.items (all_push (IsEdge c.args.nodes) c.loop-edge.ends.items c.in_ok-edge_line.field-0 c.loop-edge.invariant.inside c.in_ok-edge_line.ensures.inside);
    }

pub returns-clause-read : goal.returns-clause-read
returns-clause-read c =
    let item = edge_at c.args.nodes in
    is_done item c.loop-edge.ends.items c.args.count c.loop-edge.edge c.loop-edge.reader (many_at item 0 c.args.count c.args.reader.now) c.loop-edge-test.false c.loop-edge.invariant.read
