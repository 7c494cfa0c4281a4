use Rattle.std.proofs.Common.{◌*◌, ◌+◌, ◌<◌, length}
use Rattle.xn_brute.specs.Growth.{CanCut, CanCutFrom, CanHang}
use Rattle.xn_brute.proofs.extensions.+grow.Given as goal

abbrev pub decreases-extends : goal.decreases-extends
decreases-extends l = 5 * length l.rest.now

abbrev pub decreases-inserts : goal.decreases-inserts
decreases-inserts l = 5 * length l.growth.now.later.now + 4

abbrev pub decreases-hangs : goal.decreases-hangs
decreases-hangs l = 5 * length l.growth.now.later.now + 3

abbrev pub decreases-cuts : goal.decreases-cuts
decreases-cuts l = 5 * length l.growth.now.later.now + 3

abbrev pub decreases-cuts_from : goal.decreases-cuts_from
decreases-cuts_from l = 5 * length l.growth.now.later.now + 2

abbrev pub decreases-goes_on : goal.decreases-goes_on
decreases-goes_on l = 5 * length l.growth.now.later.now + 1

-- no corner before this one serves
abbrev pub invariant-hangs-loop-c : goal.invariant-hangs-loop-c
invariant-hangs-loop-c l = (can : CanHang l.growth l.d l.e) → can.1.corner < l.c → ⊥

abbrev pub invariant-cuts-loop-c : goal.invariant-cuts-loop-c
invariant-cuts-loop-c l = (can : CanCut l.growth) → can.1.first < l.c → ⊥

abbrev pub invariant-cuts_from-loop-b : goal.invariant-cuts_from-loop-b
invariant-cuts_from-loop-b l = (can : CanCutFrom l.growth l.c) → can.second < l.b → ⊥
