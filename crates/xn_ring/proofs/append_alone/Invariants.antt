use Rattle.std.proofs.Common.{◌≡◌, ◌+◌, ◌++◌, length, vec_capacity, vec_len}
use Rattle.std.specs.List.{range_with_len}
use Rattle.xn_ring.proofs.append_alone.Given as goal

abbrev pub invariant-loop-i : goal.invariant-loop-i
invariant-loop-i l = record {
  appended : l.xs.items ≡ l.initial.xs.items ++ range_with_len (length l.initial.xs.items) l.i;
  start : l.start ≡ length l.initial.xs.items;
  longer : vec_len l.xs ≡ vec_len l.initial.xs + l.i;
  room : vec_capacity l.xs ≡ vec_capacity l.initial.xs;
}
