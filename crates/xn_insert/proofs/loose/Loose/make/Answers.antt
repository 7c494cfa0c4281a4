use Rattle.std.proofs.Common.{sym, subst}
use Rattle.xn_graph.specs.Counts.{IsBalanced}
use Rattle.xn_insert.specs.Judged.{IsMade}
use Rattle.xn_insert.specs.ListedLoose.{loose_of}
use Rattle.xn_insert.proofs.Judged.{made}
use Rattle.xn_insert.proofs.loose.Loose.make.Goals as goal

pub returns-clause-ok : goal.returns-clause-ok
returns-clause-ok c =
    let g = c.args.graph.now in
    let m = c.args.map in
    let walks = c.args.walks in
    let flat = subst IsBalanced c.in_ok-euler.ensures.counts (c.is_balanced.ensures.0 c.if-not-is_balanced.false) in
    subst (λ n. IsMade g m walks (loose_of n m walks)) (sym c.nodes-nodes.ensures.value)
    (made g m walks c.nodes-nodes.ensures.limited.is_graph c.web-web.ensures.is_map c.in_ok-check_turns.ensures flat)
