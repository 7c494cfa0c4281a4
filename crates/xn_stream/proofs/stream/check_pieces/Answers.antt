use Rattle.std.proofs.Common.{ℕ, Vec}
use Rattle.std.specs.Global.{Global}
use Rattle.std.proofs.lemmas.Result.{err_from_is_err_and}
use Rattle.xn_stream.proofs.Said.{pieces_refused}
use Rattle.xn_stream.proofs.stream.check_pieces.Goals as goal

pub returns-in_err-feed : goal.returns-in_err-feed
returns-in_err-feed c =
    let p = err_from_is_err_and c.from_residual-in_err-feed.result c.from_residual-in_err-feed.ensures.1 in
    let so_far = c.loop-piece.invariant in
    rw (p.1, p.2)
    (pieces_refused {X = Vec ℕ Global} (λ x. x.items) c.args.pieces.now c.loop-piece.piece-index c.piece-item.result c.deref.result.now c.args.graph c.args.loops
    c.loop-piece.stream c.in_err-feed.field-0.0 c.loop-piece-test.true c.piece-item.is c.deref.ensures.value so_far.graph so_far.loops
    (c.in_err-feed.ensures.exactly _ so_far.stands))
