use Rattle.std.proofs.Common.{vec_items, ◌∷◌, []}
use Rattle.std.proofs.lemmas.List.{map-append}
use Rattle.std.proofs.lemmas.Result.{err_from_is_err_and}
use Rattle.xn_list.specs.Lists.{lists_of}
use Rattle.xn_proof.specs.Proofs.{overs_at}
use Rattle.xn_proof.proofs.Overs.{overs_on, overs_stop, overs_done}
use Rattle.xn_proof.proofs.rows.over_lines.Goals as goal

pub returns-in_err-edge : goal.returns-in_err-edge
returns-in_err-edge c =
    let p = err_from_is_err_and c.from_residual.result c.from_residual.ensures.1 in
    rw (p.1, p.2) (overs_stop c.in_err-edge.field-0.0 c.loop-place.edges.items (lists_of c.loop-place.lists.items) c.args.count c.loop-place.place c.loop-place.reader (overs_at c.args.count c.args.reader.now) c.loop-place-test.true c.in_err-edge.ensures c.loop-place.invariant)

pub loop-place-preserved : goal.loop-place-preserved
loop-place-preserved c =
    let lists = c.loop-place.lists.items in
    let list = c.in_ok-edge.list in
    rw (c.in_ok-push.ensures.items, c.in_ok-push-2.ensures.items, map-append vec_items lists (list ∷ [])) (overs_on c.loop-place.edges.items (lists_of lists) c.args.count c.loop-place.place c.loop-place.reader (c.in_ok-edge.edge, vec_items list) c.over_line.new.reader (overs_at c.args.count c.args.reader.now) c.loop-place-test.true c.in_ok-edge.ensures c.loop-place.invariant)

pub returns : goal.returns
returns c = overs_done c.loop-place.edges.items (lists_of c.loop-place.lists.items) c.args.count c.loop-place.place c.loop-place.reader (overs_at c.args.count c.args.reader.now) c.loop-place-test.false c.loop-place.invariant
