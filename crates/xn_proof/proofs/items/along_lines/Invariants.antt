use Rattle.std.proofs.Common.{◌≡◌, ◌-◌, ◌*◌, ◌≤◌, length}
use Rattle.xn_list.specs.Lists.{lists_of}
use Rattle.xn_model.specs.Lists.{total}
use Rattle.xn_proof.specs.Fronts.{along_at}
use Rattle.xn_proof.specs.Reading.{many_at}
use Rattle.xn_proof.proofs.Loop.{with_items}
use Rattle.xn_proof.proofs.items.along_lines.Given as goal

-- the lists so far and those of the lines that are left are all of them
abbrev pub invariant-loop-edge : goal.invariant-loop-edge
invariant-loop-edge l = record {
  read : with_items (lists_of l.lists.items) (many_at along_at l.edge (l.count - l.edge) l.reader) ≡ many_at along_at 0 l.count l.fn.reader;
  count : length l.lists.items ≡ l.edge;
  small : total length (lists_of l.lists.items) ≤ 999 * l.edge;
}
