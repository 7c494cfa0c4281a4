use Rattle.std.proofs.Common.{◌≡◌, ◌≤◌, ◌-◌, ◌∙◌, ap, arith, length}
use Rattle.std.proofs.lemmas.List.{length-take-le}
use Rattle.xn_model.specs.Lists.{at}
use Rattle.xn_ring.proofs.Inverse.{AreInverse-take}
use Rattle.xn_ring.proofs.Rings.shrink.Goals as goal

pub invariant_of-self : goal.invariant_of-self
invariant_of-self c =
    let s = c.self.inside in
    let is : s.next.items ≡ c.args.self.now = c.self.view_is in
    let m = c.len.result - c.args.n in
    let fewer : m ≤ length s.next.items = omega (arith, c.len.ensures) in
    rw (c.truncate.ensures.items, c.truncate-2.ensures.items)
    record {
      inverse = AreInverse-take s.next.items s.prev.items m c.self.invariant.inverse fewer (λ d high below.
          ap (λ xs. at xs d) is ∙ c.requires.alone d (omega (arith, high, c.len.ensures, ap length is)) (omega (arith, below, ap length is)));
      small = omega (arith, length-take-le m s.next.items fewer, c.self.invariant.small);
    }
