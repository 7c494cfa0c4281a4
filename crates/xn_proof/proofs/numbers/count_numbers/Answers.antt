use Rattle.std.proofs.Common.{◌≡◌, ◌^◌, ◌∙◌, Ok, Err, suc, length, sym, ap, arith}
use Rattle.xn_text.specs.Number.{word_number}
use Rattle.xn_text.specs.Pieces.{words_of}
use Rattle.xn_proof.specs.declared.flaw.AnswerErr.TheVariants as errors
use Rattle.xn_proof.specs.Reading.{number_of, syntax, value_at}
use Rattle.xn_proof.proofs.Tested.{each_ends, each_fails, each_leads, not_spelled, spelled_is}
use Rattle.xn_proof.proofs.Words.{few_words}
use Rattle.xn_proof.proofs.numbers.count_numbers.Goals as goal

pub returns-in-Not-clause-read : goal.returns-in-Not-clause-read
returns-in-Not-clause-read c =
    let i = c.args.number in
    let failed : value_at i c.in-Some.word.now ≡ Err (syntax i) = not_spelled i (word_number (2 ^ 64) c.in-Some.word.now) (sym c.word_u64.ensures.value ∙ c.in-Not.is) in
    rw c.syntax.ensures (each_fails (value_at i) number_of (errors.Refused (syntax i)) c.loop-word.words c.in-Some.word.now c.next.new.self (words_of c.args.line.now) c.in-Some.ensures.some failed c.loop-word.invariant.leads)

pub overflow_add-count : goal.overflow_add-count
overflow_add-count c =
    let long : length c.loop-word.words ≡ suc (length c.next.new.self) = ap length c.in-Some.ensures.some in
    omega (arith, long, few_words c.args.line.now, c.loop-word.invariant.count)

pub loop-word-preserved : goal.loop-word-preserved
loop-word-preserved c =
    let i = c.args.number in
    let word = c.in-Some.word.now in
    let long : length c.loop-word.words ≡ suc (length c.next.new.self) = ap length c.in-Some.ensures.some in
    let here : value_at i word ≡ Ok (number_of word) = spelled_is i (word_number (2 ^ 64) word) (λ e. c.in_default-word_u64.not-Not (c.word_u64.ensures.value ∙ e)) in
    record {
      leads = each_leads (value_at i) number_of c.loop-word.words word c.next.new.self (words_of c.args.line.now) c.in-Some.ensures.some here c.loop-word.invariant.leads;
      count = omega (arith, long, c.loop-word.invariant.count);
    }

pub returns-clause-read : goal.returns-clause-read
returns-clause-read c = each_ends (value_at c.args.number) number_of c.loop-word.words (words_of c.args.line.now) c.in_default.ensures.none.0 c.loop-word.invariant.leads
