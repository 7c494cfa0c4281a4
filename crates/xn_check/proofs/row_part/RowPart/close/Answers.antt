use Rattle.std.proofs.Common.{length, ap, arith}
use Rattle.std.proofs.lemmas.Result.{err_from_is_err_and}
use Rattle.xn_check.proofs.Parts.{same_refusal}
use Rattle.xn_check.proofs.row_part.RowPart.close.Goals as goal

pub returns-in_err-test_row-clause-judged : goal.returns-in_err-test_row-clause-judged
returns-in_err-test_row-clause-judged c =
    let p = err_from_is_err_and c.from_residual.result c.from_residual.ensures.1 in
    rw (p.1, p.2) (same_refusal c.args.number c.in_err-test_row.field-0.0 _ _ _ _ _
    (omega (arith, c.len-place.ensures, c.self.inside.whole.ok.0, ap (λ v. length v.whole) c.self.view_is))
    c.take_row-row.ensures.row c.in_err-test_row.ensures)
