use Rattle.std.proofs.Common.{◌<◌, arith, length}
use Rattle.std.proofs.lemmas.List.Edits.{length-swap}
use Rattle.std.proofs.lemmas.Grind.{common_steps}
use Rattle.xn_ring.proofs.Inverse.{AreInverse-swap}
use Rattle.xn_ring.proofs.Rings.splice.Goals as goal

pub invariant_of-self : goal.invariant_of-self
invariant_of-self c =
    let s = c.self.inside in
    let a_in : c.args.a < length s.next.items = grind (arith, common_steps) in
    let b_in : c.args.b < length s.next.items = grind (arith, common_steps) in
    rw (c.swap.ensures.items, c.swap-2.ensures.items)
    record {
      inverse = AreInverse-swap s.next.items s.prev.items c.args.a c.args.b _ _ (grind (arith, common_steps)) (grind (arith, common_steps)) c.self.invariant.inverse a_in b_in;
      small = omega (arith, length-swap s.next.items c.args.a c.args.b, c.self.invariant.small);
    }
