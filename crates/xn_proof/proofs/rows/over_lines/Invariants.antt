use Rattle.std.proofs.Common.{◌≡◌, ◌-◌}
use Rattle.xn_list.specs.Lists.{lists_of}
use Rattle.xn_proof.specs.Proofs.{over_at, overs_at}
use Rattle.xn_proof.specs.Reading.{many_at}
use Rattle.xn_proof.proofs.Overs.{with_overs}
use Rattle.xn_proof.proofs.rows.over_lines.Given as goal

-- the edges and lists so far and those of the lines that are left are all of them
abbrev pub invariant-loop-place : goal.invariant-loop-place
invariant-loop-place l = with_overs l.edges.items (lists_of l.lists.items) (many_at over_at l.place (l.count - l.place) l.reader) ≡ overs_at l.count l.fn.reader
