use Rattle.std.proofs.Common.{◌+◌, ◌≤◌}
use Rattle.std.proofs.lemmas.Result.{IfOk-weaker}
use Rattle.xn_model.specs.Drawing.{order_of}
use Rattle.xn_model.specs.Orders.{crossing_count}
use Rattle.xn_loose.specs.Renaming.{subgraph_of}
use Rattle.xn_insert.specs.ListedLoose.{edges_in}
use Rattle.xn_simple.specs.Tangle.{lists_in}
use Rattle.xn_simple.specs.Untangling.{IsDrawnBy}
use Rattle.xn_simple.proofs.Simplified.{is_simple}
use Rattle.xn_simple.proofs.simplifying.simplify.Goals as goal

pub returns-clause-no_more : goal.returns-clause-no_more
returns-clause-no_more c =
    let graph = c.args.graph.now in
    let l = c.args.loose in
    let g = subgraph_of graph (edges_in l) in
    let start = lists_in c.in_ok-tangle.tangle in
    let t = lists_in c.untangle.new.self in
    let parts = c.into_parts-map in
    let ends = c.in_ok-untangle.ensures in
    IfOk-weaker c.drawing.result (IsDrawnBy graph t) (λ d. graph.nodes + crossing_count g (order_of g d.orders) ≤ l.map.web.nodes)
    (λ d by. (is_simple graph l parts.result.0 parts.result.1 start t parts.ensures.map parts.ensures.walks c.in_ok-tangle.ensures ends d by).no_more)
    (c.drawing.ensures graph ends.1)
