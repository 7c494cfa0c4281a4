use Rattle.std.proofs.Common.{◌≡◌, ◌++◌, replicate}
use Rattle.xn_show.proofs.segments.push_times.Given as goal

-- so many are appended
abbrev pub invariant-loop : goal.invariant-loop
invariant-loop l = l.of.items ≡ l.fn.of.items ++ replicate l.counter l.e
