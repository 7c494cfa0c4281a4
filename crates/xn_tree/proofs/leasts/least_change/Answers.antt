use Rattle.std.proofs.Common.{arith, ◌≤ℤ◌, refl, ◌^◌}
use Rattle.std.specs.Prelude.{pos, ◌+ℤ◌, ◌-ℤ◌}
use Rattle.std.proofs.lemmas.Int.{ints}
use Rattle.xn_tree.specs.Least.{IsLesser}
use Rattle.xn_tree.proofs.Least.{least_alike, least_gap}
use Rattle.xn_tree.proofs.leasts.least_change.Goals as goal

pub overflow_sub-result : goal.overflow_sub-result
overflow_sub-result c =
    let before : IsLesser c.args.given c.args.zero c.args.one c.least_of-before.result =
    least_alike c.args.given c.args.given _ _ c.least_of-before.result c.args.zero c.args.one c.least_of-before.result c.least_of-before.ensures refl
    (omega (arith, ints)) (omega (arith, ints)) refl in
    let after : IsLesser c.args.given (c.args.zero -ℤ pos c.args.for_zero) (c.args.one -ℤ pos c.args.for_one) c.least_of-after.result =
    least_alike c.args.given c.args.given _ _ c.least_of-after.result (c.args.zero -ℤ pos c.args.for_zero) (c.args.one -ℤ pos c.args.for_one) c.least_of-after.result
    c.least_of-after.ensures refl (omega (arith, ints, c.from.ensures, c.requires)) (omega (arith, ints, c.from-2.ensures, c.requires)) refl in
    let gap : (c.least_of-after.result ≤ℤ c.least_of-before.result) × (c.least_of-before.result ≤ℤ (c.least_of-after.result +ℤ pos (2 ^ 64))) =
    least_gap c.args.given c.args.zero c.args.one (c.args.zero -ℤ pos c.args.for_zero) (c.args.one -ℤ pos c.args.for_one) c.least_of-before.result c.least_of-after.result
    (2 ^ 64) (omega (arith, ints)) (omega (arith, ints)) (omega (arith, ints)) (omega (arith, ints)) before after in
    omega (arith, ints, gap.0, gap.1)

pub returns-clause-change : goal.returns-clause-change
returns-clause-change c =
    let before : IsLesser c.args.given c.args.zero c.args.one c.least_of-before.result =
    least_alike c.args.given c.args.given _ _ c.least_of-before.result c.args.zero c.args.one c.least_of-before.result c.least_of-before.ensures refl
    (omega (arith, ints)) (omega (arith, ints)) refl in
    let after : IsLesser c.args.given (c.args.zero -ℤ pos c.args.for_zero) (c.args.one -ℤ pos c.args.for_one) c.least_of-after.result =
    least_alike c.args.given c.args.given _ _ c.least_of-after.result (c.args.zero -ℤ pos c.args.for_zero) (c.args.one -ℤ pos c.args.for_one) c.least_of-after.result
    c.least_of-after.ensures refl (omega (arith, ints, c.from.ensures, c.requires)) (omega (arith, ints, c.from-2.ensures, c.requires)) refl in
    let gap : (c.least_of-after.result ≤ℤ c.least_of-before.result) × (c.least_of-before.result ≤ℤ (c.least_of-after.result +ℤ pos (2 ^ 64))) =
    least_gap c.args.given c.args.zero c.args.one (c.args.zero -ℤ pos c.args.for_zero) (c.args.one -ℤ pos c.args.for_one) c.least_of-before.result c.least_of-after.result
    (2 ^ 64) (omega (arith, ints)) (omega (arith, ints)) (omega (arith, ints)) (omega (arith, ints)) before after in
    record {
      before = c.least_of-before.result;
      after = c.least_of-after.result;
      is_before = before;
      is_after = after;
      gap = omega (arith, ints, gap.0, gap.1);
    }

pub returns-clause-small : goal.returns-clause-small
returns-clause-small c =
    let before : IsLesser c.args.given c.args.zero c.args.one c.least_of-before.result =
    least_alike c.args.given c.args.given _ _ c.least_of-before.result c.args.zero c.args.one c.least_of-before.result c.least_of-before.ensures refl
    (omega (arith, ints)) (omega (arith, ints)) refl in
    let after : IsLesser c.args.given (c.args.zero -ℤ pos c.args.for_zero) (c.args.one -ℤ pos c.args.for_one) c.least_of-after.result =
    least_alike c.args.given c.args.given _ _ c.least_of-after.result (c.args.zero -ℤ pos c.args.for_zero) (c.args.one -ℤ pos c.args.for_one) c.least_of-after.result
    c.least_of-after.ensures refl (omega (arith, ints, c.from.ensures, c.requires)) (omega (arith, ints, c.from-2.ensures, c.requires)) refl in
    let gap : (c.least_of-after.result ≤ℤ c.least_of-before.result) × (c.least_of-before.result ≤ℤ (c.least_of-after.result +ℤ pos (2 ^ 64))) =
    least_gap c.args.given c.args.zero c.args.one (c.args.zero -ℤ pos c.args.for_zero) (c.args.one -ℤ pos c.args.for_one) c.least_of-before.result c.least_of-after.result
    (2 ^ 64) (omega (arith, ints)) (omega (arith, ints)) (omega (arith, ints)) (omega (arith, ints)) before after in
    (omega (arith, ints, gap.0, gap.1), omega (arith, ints, gap.0, gap.1))
