use Rattle.std.proofs.Common.{ℕ, ◌<◌, length}
use Rattle.xn_lp.specs.Program.{row_at, term_at}
use Rattle.xn_lp.proofs.program.Lp.names_columns.Given as goal

abbrev pub invariant-loop-i : goal.invariant-loop-i
invariant-loop-i l = (i k : ℕ) → i < l.i → k < length (row_at l.self i).terms → (term_at (row_at l.self i).terms k).0 < length l.self.cost
