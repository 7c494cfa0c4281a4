use Rattle.std.proofs.Common.{refl}
use Rattle.xn_check.proofs.Leaves.{falls_at, rise_all}
use Rattle.xn_check.proofs.tree_part.rises.Goals as goal

pub returns-then-parts-i : goal.returns-then-parts-i
returns-then-parts-i c = (
  λ is_true. absurd (let e = is_true in cc),
  λ rise. absurd (falls_at c.args.parts.now c.loop-i.i c.loop-i.invariant.within c.loop-i-test.true c.if-parts-i.true rise),
)

pub returns : goal.returns
returns c = (λ is_true. rise_all c.args.parts.now c.loop-i.i c.loop-i.invariant c.loop-i-test.false, λ rise. refl)
