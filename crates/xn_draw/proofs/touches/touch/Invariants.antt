use Rattle.std.proofs.Common.{◌≡◌, ℕ, ◌<◌}
use Rattle.xn_model.specs.Lists.{at}
use Rattle.xn_draw.specs.Touches.{NoTouchOf, first_of}
use Rattle.xn_draw.proofs.touches.touch.Given as goal

-- smaller edges touch none, and the segments of this one begin here
abbrev pub invariant-loop-e : goal.invariant-loop-e
invariant-loop-e l = record {
  none : (d : ℕ) → d < l.e → NoTouchOf l.orders (at l.map.next) d;
  begins : l.first ≡ first_of l.orders l.e;
}
