use Rattle.std.proofs.Common.{◌≡◌, ℕ, arith, ap, ◌∙◌, length, take}
use Rattle.std.proofs.Math.Seq.{take-length}
use Rattle.std.specs.Str.Parse.{digits_value}
use Rattle.xn_gml.proofs.Digits.{value_more, reaches}
use Rattle.xn_gml.proofs.runs.value_of.Goals as goal

pub returns-in_default : goal.returns-in_default
returns-in_default c =
    reaches c.args.digits.now c.loop-digit.digit-index c.loop-digit.value c.requires c.loop-digit-test.true c.loop-digit.invariant.is (omega (arith, c.in_default.ensures))

pub returns-in_default-checked_add : goal.returns-in_default-checked_add
returns-in_default-checked_add c =
    reaches c.args.digits.now c.loop-digit.digit-index c.loop-digit.value c.requires c.loop-digit-test.true c.loop-digit.invariant.is (omega (arith, c.in_default-checked_add.ensures, c.in-Some.ensures, c.from.ensures))

pub loop-digit-preserved : goal.loop-digit-preserved
loop-digit-preserved c =
    let more = value_more c.args.digits.now c.loop-digit.digit-index c.requires c.loop-digit-test.true in
    record {
      is = omega (arith, more, c.loop-digit.invariant.is, c.in-Some-checked_add.ensures, c.in-Some.ensures, c.from.ensures);
      small = omega (arith, c.in-Some-checked_add.ensures);
    }

pub returns : goal.returns
returns c =
    let end : c.loop-digit.digit-index ≡ length c.args.digits.now = omega arith in
    c.loop-digit.invariant.is ∙ ap (λ (i : ℕ). digits_value 10 (take i c.args.digits.now)) end ∙ ap (digits_value 10) (take-length c.args.digits.now)
