use Rattle.std.proofs.Common.{◌++◌, ◌∙◌, sym, ap, arith}
use Rattle.xn_proof.specs.Spelling.{turn_line, turns_of}
use Rattle.xn_proof.proofs.Appended.{each_all, each_more, turns_at, turns_below, turns_past}
use Rattle.xn_proof.proofs.writer.put_turns.Goals as goal

pub loop-s-preserved : goal.loop-s-preserved
loop-s-preserved c =
    let next = c.args.next.now in
    let low = c.loop-s-test.true in
    let mid = c.loop-s.to.items in
    each_more turn_line (turns_of next) c.loop-s.s (0, 0) c.args.to.now.items mid c.put_line.new.to.items (turns_below next c.loop-s.s (omega (arith, low))) c.loop-s.invariant
    ((rw (c.as_slice.ensures, c.from.ensures, c.from-in-loop-s.ensures) at c.in_ok-put_line.ensures) ∙ ap (λ t. mid ++ turn_line t) (sym (turns_at next c.loop-s.s (omega (arith, low)))))

pub returns : goal.returns
returns c =
    let next = c.args.next.now in
    let past = c.loop-s-test.false in
    each_all turn_line (turns_of next) c.loop-s.s c.args.to.now.items c.loop-s.to.items (turns_past next c.loop-s.s (omega (arith, past))) c.loop-s.invariant
