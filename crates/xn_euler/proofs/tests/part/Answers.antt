use Rattle.std.proofs.Common.{◌≢◌, ◌/◌, ℕ, ap, arith, inl, inr, length, sym}
use Rattle.xn_euler.specs.Resolving.{CanPartBy}
use Rattle.xn_euler.specs.declared.resolution.Way.{Way}
use Rattle.xn_euler.specs.declared.resolution.Way.TheVariants.{First, Second}
use Rattle.xn_euler.proofs.tests.part.Goals as goal

by_way : (how : Way) (a b c d : ℕ) → a / 2 ≢ b / 2 → c / 2 ≢ d / 2 → c / 2 ≢ a / 2 → c / 2 ≢ b / 2 → d / 2 ≢ a / 2 → CanPartBy how a b c d
by_way First a b c d ab cd ca cb da = record {
  first_two = ab;
  last_two = cd;
  still_two = λ one two. elim one [ inl same ↦ ca same | inr same ↦ cb same ];
}
by_way Second a b c d ab cd ca cb da = record {
  first_two = λ same. cb (sym same);
  last_two = da;
  still_two = λ one two. elim two [ inl same ↦ ab same | inr same ↦ ca (sym same) ];
}

pub resolve-requires-clause-four : goal.resolve-requires-clause-four
resolve-requires-clause-four g c =
    let ends = ap (λ w. length w.ends) c.web-2.ensures.value in (
      c.args.a,
      c.next-b.result,
      c.next-c.result,
      c.next-d.result,
      record {
        first_in = omega arith;
        at_node = sym c.tail-v.ensures.value;
        to_second = sym c.next-b.ensures.value;
        to_third = sym c.next-c.ensures.value;
        to_fourth = sym c.next-d.ensures.value;
        to_first = omega (arith, c.next-e.ensures.value);
        least = (omega arith, omega arith, omega arith);
      },
      by_way c.args.how c.args.a c.next-b.result c.next-c.result c.next-d.result (λ same. omega arith) (λ same. omega arith) (λ same. omega arith)
          (λ same. omega arith) (λ same. omega arith),
    )
