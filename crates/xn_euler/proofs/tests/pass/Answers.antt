use Rattle.std.proofs.Common.{ap, arith, length, sym}
use Rattle.xn_euler.proofs.tests.pass.Goals as goal

pub smooth-requires : goal.smooth-requires
smooth-requires g c =
    let ends = ap (λ w. length w.ends) c.web.ensures.value in (
      c.args.p,
      c.args.q,
      record {
        first_in = omega arith;
        second_in = omega arith;
        at_node = sym c.tail-v.ensures.value;
        to_second = omega arith;
        to_first = omega arith;
        smaller = omega arith;
      },
    )
