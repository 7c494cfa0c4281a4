use Rattle.std.proofs.Common.{sym, ◌∙◌, ◌^◌, arith}
use Rattle.xn_text.proofs.Digits.{is_spelled, spelled_is}
use Rattle.xn_text.proofs.numbers.word_u32.Goals as goal

pub returns-clause-is : goal.returns-clause-is
returns-clause-is c = λ n below.
    (λ e. (is_spelled (2 ^ 32) c.args.word.now n (omega arith) (sym c.number_up_to.ensures ∙ e)).0, λ e. c.number_up_to.ensures ∙ spelled_is (2 ^ 32) c.args.word.now n (omega arith) below e)
