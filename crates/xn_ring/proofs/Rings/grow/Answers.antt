use Rattle.std.proofs.Common.{ap, arith, length}
use Rattle.xn_ring.proofs.Inverse.{AreInverse-append_range, length-append_range}
use Rattle.xn_ring.proofs.Rings.grow.Goals as goal

pub invariant_of-self-2 : goal.invariant_of-self-2
invariant_of-self-2 c =
    let s = c.self.inside in
    rw (c.append_alone.ensures, c.append_alone-2.ensures, c.reserve.ensures.items, c.reserve-2.ensures.items)
    record {
      inverse = AreInverse-append_range s.next.items s.prev.items c.args.n c.self.invariant.inverse;
      small = omega (arith, length-append_range s.next.items c.args.n, c.requires, ap length c.self.view_is);
    }
