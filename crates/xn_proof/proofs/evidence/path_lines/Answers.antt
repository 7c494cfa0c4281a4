use Rattle.std.proofs.Common.{vec_items, ◌∷◌, []}
use Rattle.std.proofs.lemmas.List.{map-append}
use Rattle.std.proofs.lemmas.Result.{err_from_is_err_and}
use Rattle.xn_list.specs.Lists.{lists_of}
use Rattle.xn_proof.specs.Proofs.{path_at}
use Rattle.xn_proof.specs.Reading.{many_at}
use Rattle.xn_proof.proofs.Loop.{goes_on, stops, is_done}
use Rattle.xn_proof.proofs.evidence.path_lines.Goals as goal

pub returns-in_err-path_line : goal.returns-in_err-path_line
returns-in_err-path_line c =
    let p = err_from_is_err_and c.from_residual.result c.from_residual.ensures.1 in
    rw (p.1, p.2) (stops path_at c.in_err-path_line.field-0.0 (lists_of c.loop-path.paths.items) c.args.count c.loop-path.path c.loop-path.reader (many_at path_at 0 c.args.count c.args.reader.now) c.loop-path-test.true c.in_err-path_line.ensures c.loop-path.invariant)

pub loop-path-preserved : goal.loop-path-preserved
loop-path-preserved c =
    let paths = c.loop-path.paths.items in
    let path = c.in_ok-path_line.field-0 in
    rw (c.in_ok-push.ensures.items, map-append vec_items paths (path ∷ [])) (goes_on path_at (lists_of paths) c.args.count c.loop-path.path c.loop-path.reader (vec_items path) c.path_line.new.reader (many_at path_at 0 c.args.count c.args.reader.now) c.loop-path-test.true c.in_ok-path_line.ensures c.loop-path.invariant)

pub returns : goal.returns
returns c = is_done path_at (lists_of c.loop-path.paths.items) c.args.count c.loop-path.path c.loop-path.reader (many_at path_at 0 c.args.count c.args.reader.now) c.loop-path-test.false c.loop-path.invariant
