use Rattle.std.proofs.Common.{◌≡◌, ◌-◌}
use Rattle.xn_proof.specs.Proofs.{row_at}
use Rattle.xn_proof.specs.Reading.{many_at}
use Rattle.xn_proof.proofs.Loop.{with_items}
use Rattle.xn_proof.proofs.rows.rows.Given as goal

-- the rows so far and those of the lines that are left are all of them
abbrev pub invariant-loop-place : goal.invariant-loop-place
invariant-loop-place l = with_items l.rows.items (many_at (row_at l.edges) l.place (l.count - l.place) l.reader) ≡ many_at (row_at l.edges) 0 l.count l.fn.reader
