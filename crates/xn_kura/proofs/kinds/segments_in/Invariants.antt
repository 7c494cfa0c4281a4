use Rattle.std.proofs.Common.{◌≡◌, length, take}
use Rattle.std.specs.List.{concat}
use Rattle.xn_kura.proofs.kinds.segments_in.Given as goal

-- the segments of the paths so far are counted
abbrev pub invariant-loop-q : goal.invariant-loop-q
invariant-loop-q l = l.count ≡ length (concat (take l.q l.paths))
