use Rattle.std.proofs.Common.{◌≡◌, ◌<◌, length, arith, ap, ◌∙◌, rules}
use Rattle.std.proofs.lemmas.List.{get_or_read}
use Rattle.xn_lp.specs.Program.{row_at}
use Rattle.xn_lp.specs.declared.program.LpRow.{LpRow}
use Rattle.xn_lp.proofs.program.Lp.names_columns.Goals as goal

pub returns-then-not-name_below : goal.returns-then-not-name_below
returns-then-not-name_below c =
    let in' : c.loop-i.i < length c.args.self.now.rows = omega arith in
    let row : c.at.result.now ≡ row_at c.args.self.now c.loop-i.i = get_or_read c.args.self.now.rows _ _ in' c.at.ensures _ in
    let terms = c.as_slice.ensures ∙ ap (λ (r : LpRow). r.terms) row in
    (λ t. absurd (search rules), λ h. c.if-not-name_below.ensures.1 (λ k l. rw terms (omega (arith, h c.loop-i.i k in' (rw terms at l), c.len.ensures))))
