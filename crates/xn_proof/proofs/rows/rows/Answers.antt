use Rattle.std.proofs.lemmas.Result.{err_from_is_err_and}
use Rattle.xn_proof.specs.Proofs.{row_at}
use Rattle.xn_proof.specs.Reading.{many_at}
use Rattle.xn_proof.proofs.Loop.{goes_on, stops, is_done}
use Rattle.xn_proof.proofs.rows.rows.Goals as goal

pub returns-in_err-row : goal.returns-in_err-row
returns-in_err-row c =
    let p = err_from_is_err_and c.from_residual.result c.from_residual.ensures.1 in
    let item = row_at c.args.edges in
    rw (p.1, p.2) (stops item c.in_err-row.field-0.0 c.loop-place.rows.items c.args.count c.loop-place.place c.loop-place.reader (many_at item 0 c.args.count c.args.reader.now) c.loop-place-test.true c.in_err-row.ensures c.loop-place.invariant)

pub loop-place-preserved : goal.loop-place-preserved
loop-place-preserved c =
    let item = row_at c.args.edges in
    rw c.in_ok-push.ensures.items (goes_on item c.loop-place.rows.items c.args.count c.loop-place.place c.loop-place.reader c.in_ok-row.field-0 c.row.new.reader (many_at item 0 c.args.count c.args.reader.now) c.loop-place-test.true c.in_ok-row.ensures c.loop-place.invariant)

pub returns : goal.returns
returns c =
    let item = row_at c.args.edges in
    is_done item c.loop-place.rows.items c.args.count c.loop-place.place c.loop-place.reader (many_at item 0 c.args.count c.args.reader.now) c.loop-place-test.false c.loop-place.invariant
