use Rattle.std.proofs.Common.{◌≡◌, ◌-◌}
use Rattle.xn_list.specs.Lists.{lists_of}
use Rattle.xn_proof.specs.Proofs.{path_at}
use Rattle.xn_proof.specs.Reading.{many_at}
use Rattle.xn_proof.proofs.Loop.{with_items}
use Rattle.xn_proof.proofs.evidence.path_lines.Given as goal

-- the paths so far and those of the lines that are left are all of them
abbrev pub invariant-loop-path : goal.invariant-loop-path
invariant-loop-path l = with_items (lists_of l.paths.items) (many_at path_at l.path (l.count - l.path) l.reader) ≡ many_at path_at 0 l.count l.fn.reader
