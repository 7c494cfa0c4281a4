use Rattle.std.proofs.Common.{◌≡◌, ◌+◌, ℕ, true, rules, arith, ap, ◌∙◌, length, take}
use Rattle.std.proofs.Math.Seq.{take-length}
use Rattle.xn_text.specs.declared.numbers.WordNumber.TheVariants.{Is}
use Rattle.xn_text.specs.Number.{is_number, number_value}
use Rattle.xn_text.proofs.Digits.{value_more, large_by, is_by, is_number_tells}
use Rattle.xn_text.proofs.numbers.number_up_to.Goals as goal

pub returns-in_default : goal.returns-in_default
returns-in_default c =
    let told : is_number c.args.word.now ≡ true = search rules in
    large_by c.args.word.now (c.args.most + 1) c.loop-digit.digit-index c.loop-digit.value told c.loop-digit-test.true c.loop-digit.invariant.is (omega (arith, c.in_default.ensures))

pub returns-in_default-checked_add : goal.returns-in_default-checked_add
returns-in_default-checked_add c =
    let told : is_number c.args.word.now ≡ true = search rules in
    large_by c.args.word.now (c.args.most + 1) c.loop-digit.digit-index c.loop-digit.value told c.loop-digit-test.true c.loop-digit.invariant.is (omega (arith, c.in_default-checked_add.ensures, c.in-Some.ensures, c.from.ensures))

pub loop-digit-preserved : goal.loop-digit-preserved
loop-digit-preserved c =
    let told : is_number c.args.word.now ≡ true = search rules in
    let more = value_more c.args.word.now c.loop-digit.digit-index (is_number_tells c.args.word.now told).1 c.loop-digit-test.true in
    record {
      is = omega (arith, more, c.loop-digit.invariant.is, c.in-Some-checked_add.ensures, c.in-Some.ensures, c.from.ensures);
      small = omega (arith, c.in-Some-checked_add.ensures);
    }

pub returns : goal.returns
returns c =
    let told : is_number c.args.word.now ≡ true = search rules in
    let end : c.loop-digit.digit-index ≡ length c.args.word.now = omega arith in
    let value = c.loop-digit.invariant.is ∙ ap (λ (i : ℕ). number_value (take i c.args.word.now)) end ∙ ap number_value (take-length c.args.word.now) in
    ap Is value ∙ is_by c.args.word.now (c.args.most + 1) told (omega (arith, value))
