use Rattle.std.proofs.Common.{◌≡◌, length, arith}
use Rattle.xn_kura.proofs.Found.{five_elements, five_judged, five_missing, five_nodes}
use Rattle.xn_kura.proofs.kinds.find_five.Goals as goal

pub returns-then-len-ne5 : goal.returns-then-len-ne5
returns-then-len-ne5 c branch paths whole =
    let fits = five_nodes c.args.web.now branch paths whole c.in_ok-nodes.nodes.items c.in_ok-nodes.ensures in
    c.if-len-ne5.true (omega (arith, fits, c.len.ensures, c.in_ok-nodes.nodes.ok.0))

pub returns-in-None : goal.returns-in-None
returns-in-None c =
    let nodes = c.in_ok-nodes.nodes.items in
    let fits : length nodes ≡ 5 = omega (arith, c.len.ensures, c.if-len-ne5.false, c.in_ok-nodes.nodes.ok.0) in
    let same = five_elements nodes c.index.result.now c.index-2.result.now c.index-3.result.now c.index-4.result.now c.index-5.result.now fits
    c.index.ensures c.index-2.ensures c.index-3.ensures c.index-4.ensures c.index-5.ensures in
    five_missing c.args.web.now nodes _ c.in_ok-nodes.ensures same c.in_ok-paths_between.field-0 c.in_ok-paths_between.ensures c.in-None.is

pub returns : goal.returns
returns c =
    let nodes = c.in_ok-nodes.nodes.items in
    let fits : length nodes ≡ 5 = omega (arith, c.len.ensures, c.if-len-ne5.false, c.in_ok-nodes.nodes.ok.0) in
    let same = five_elements nodes c.index.result.now c.index-2.result.now c.index-3.result.now c.index-4.result.now c.index-5.result.now fits
    c.index.ensures c.index-2.ensures c.index-3.ensures c.index-4.ensures c.index-5.ensures in
    five_judged c.args.web.now nodes _ c.in_ok-nodes.ensures same c.in-Some.paths c.in_ok-paths_between.field-0 c.in_ok-paths_between.ensures c.in-Some.is c.judged.result c.judged.ensures
