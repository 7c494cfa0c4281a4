use Rattle.std.proofs.Common.{arith, ap, drop, ◌-◌, ◌≡◌, ℕ, [], length-drop}
use Rattle.xn_model.specs.Lists.{neighbours, total}
use Rattle.xn_kinds.specs.Row.{literal}
use Rattle.xn_brute.proofs.Sums.{neighbours-short}
use Rattle.xn_brute.proofs.leaves.turns_along.Goals as goal

pub returns-clause-value : goal.returns-clause-value
returns-clause-value c = λ v fits.
    let i = c.loop-i.i in
    let list = c.args.list.now in
    let h : ℕ × ℕ → ℕ = λ p. 1 - literal v c.args.e p.0 p.1 in
    let rest : neighbours (drop (i - 1) list) ≡ [] = neighbours-short (drop (i - 1) list) (omega (arith, length-drop (i - 1) list)) in
    omega (arith, c.loop-i.invariant.value v fits, ap (total h) rest)
