use Rattle.std.proofs.Common.{vec_items, ◌∷◌, [], arith}
use Rattle.std.proofs.lemmas.Grind.{common_steps}
use Rattle.std.proofs.lemmas.List.{map-append}
use Rattle.std.proofs.lemmas.Result.{err_from_is_err_and}
use Rattle.xn_list.specs.Lists.{lists_of}
use Rattle.xn_proof.specs.Fronts.{along_at}
use Rattle.xn_proof.specs.Reading.{many_at}
use Rattle.xn_proof.proofs.Loop.{goes_on, stops, is_done}
use Rattle.xn_proof.proofs.Totals.{entries_push}
use Rattle.xn_proof.proofs.items.along_lines.Goals as goal

pub returns-in_err-along_line-clause-read : goal.returns-in_err-along_line-clause-read
returns-in_err-along_line-clause-read c =
    let p = err_from_is_err_and c.from_residual.result c.from_residual.ensures.1 in
    rw (p.1, p.2) (stops along_at c.in_err-along_line.field-0.0 (lists_of c.loop-edge.lists.items) c.args.count c.loop-edge.edge c.loop-edge.reader (many_at along_at 0 c.args.count c.args.reader.now) c.loop-edge-test.true c.in_err-along_line.ensures.read c.loop-edge.invariant.read)

pub loop-edge-preserved : goal.loop-edge-preserved
loop-edge-preserved c =
    let lists = c.loop-edge.lists.items in
    let list = c.in_ok-along_line.field-0 in
    let small = c.in_ok-along_line.ensures.small in
    let more = entries_push lists list in
    record {
      read = rw (c.in_ok-push.ensures.items, map-append vec_items lists (list ∷ [])) (goes_on along_at (lists_of lists) c.args.count c.loop-edge.edge c.loop-edge.reader (vec_items list) c.along_line.new.reader (many_at along_at 0 c.args.count c.args.reader.now) c.loop-edge-test.true c.in_ok-along_line.ensures.read c.loop-edge.invariant.read);
      count = grind (arith, common_steps);
      small = rw c.in_ok-push.ensures.items (omega (arith, more, small, c.loop-edge.invariant.small));
    }

pub returns-clause-read : goal.returns-clause-read
returns-clause-read c = is_done along_at (lists_of c.loop-edge.lists.items) c.args.count c.loop-edge.edge c.loop-edge.reader (many_at along_at 0 c.args.count c.args.reader.now) c.loop-edge-test.false c.loop-edge.invariant.read
