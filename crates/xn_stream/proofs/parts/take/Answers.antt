use Rattle.std.proofs.Common.{ℕ, List, sym, subst}
use Rattle.std.proofs.lemmas.Result.{err_from_is_err_and}
use Rattle.xn_stream.proofs.Taking.{IsTaken, all_taken, none_taken, part_is, part_on, part_stops}
use Rattle.xn_stream.proofs.parts.take.Goals as goal

pub loop-part-init : goal.loop-part-init
loop-part-init c =
    subst (λ (p : ℕ × List ℕ). IsTaken c.args.judge.now c.args.begun.now.items c.args.piece.now c.args.judge.now c.args.begun.now.items p.1)
    (sym c.new-parts.ensures) (none_taken c.args.judge.now c.args.begun.now.items c.args.piece.now c.requires)

pub take_part-requires-clause-lacks : goal.take_part-requires-clause-lacks
take_part-requires-clause-lacks c =
    (part_is c.loop-part.parts c.next.new.self c.in-Some.part.number c.in-Some.part.bytes.now c.in-Some.part.ended c.in-Some.ensures.some).0

pub loop-part-preserved : goal.loop-part-preserved
loop-part-preserved c =
    part_on c.args.judge.now c.loop-part.judge c.take_part.new.judge c.args.begun.now.items c.args.piece.now c.loop-part.begun.items c.take_part.new.begun.items
    c.in-Some.part.bytes.now c.in-Some.part.ended c.loop-part.parts.1 c.next.new.self.1 c.loop-part.invariant
    (part_is c.loop-part.parts c.next.new.self c.in-Some.part.number c.in-Some.part.bytes.now c.in-Some.part.ended c.in-Some.ensures.some).1
    c.in_ok-take_part.ensures.finds c.in_ok-take_part.ensures.task c.in_ok-take_part.ensures.ready

pub returns-in_err-take_part-clause-finds : goal.returns-in_err-take_part-clause-finds
returns-in_err-take_part-clause-finds c =
    let p = err_from_is_err_and c.from_residual.result c.from_residual.ensures.1 in
    rw (p.1, p.2)
    (part_stops c.args.judge.now c.loop-part.judge c.take_part.new.judge c.args.begun.now.items c.args.piece.now c.loop-part.begun.items
    c.take_part.new.begun.items c.in-Some.part.bytes.now c.in-Some.part.ended c.loop-part.parts.1 c.next.new.self.1 c.loop-part.invariant
    (part_is c.loop-part.parts c.next.new.self c.in-Some.part.number c.in-Some.part.bytes.now c.in-Some.part.ended c.in-Some.ensures.some).1
    c.in_err-take_part.field-0.0 c.in_err-take_part.ensures.finds)
