use Rattle.xn_rows.proofs.Decided.{holds_without_flaw}
use Rattle.xn_rows.proofs.Excluded.{no_row_flaw, one_row_flaw}
use Rattle.xn_rows.proofs.laws.first_flaws.Goals as goal

pub returns-clause-exactly : goal.returns-clause-exactly
returns-clause-exactly c g row is_graph sizes = (no_row_flaw g row, holds_without_flaw g row is_graph sizes)

pub returns-clause-one : goal.returns-clause-one
returns-clause-one c = one_row_flaw
