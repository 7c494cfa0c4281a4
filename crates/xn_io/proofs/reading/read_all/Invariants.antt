use Rattle.std.proofs.Common.{◌≡◌, length, ◌-◌, ◌+◌, ◌≤◌, Some, false}
use Rattle.std.specs.String.{string_bytes}
use Rattle.xn_io.proofs.Bytes.{HasRead}
use Rattle.xn_io.proofs.reading.read_all.Given as goal

abbrev pub invariant-loop-all : goal.invariant-loop-all
invariant-loop-all g l = record {
  within : length l.all.items ≤ l.limit;
  got : g.I.Input.got l.input ≡ length l.all.items;
  fine : g.I.Input.failed l.input ≡ false;
  name : g.I.Input.name l.input ≡ Some (string_bytes l.fn.name);
  told : g.I.Input.told l.input ≡ g.I.Input.told l.fn.input;
  later : g.I.Input.faults l.fn.input ≤ g.I.Input.faults l.input;
  bytes : HasRead (g.I.Input.told l.fn.input) (string_bytes l.fn.name) l.all.items (g.I.Input.left l.input);
}

abbrev pub decreases-loop-all : goal.decreases-loop-all
decreases-loop-all g l = l.limit + 1 - length l.all.items
