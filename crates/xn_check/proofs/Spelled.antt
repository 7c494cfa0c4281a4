-- A text of which each line keeps its rules is the spelling of an answer.
use Rattle.std.proofs.Common.{◌≡◌, ℕ, List, Result, Ok, sym, subst, ap, ◌∙◌}
use Rattle.xn_kinds.specs.declared.answers.Answer.{Answer}
use Rattle.xn_kinds.specs.declared.flaws.Flaw.{Flaw}
use Rattle.xn_proof.specs.Forms.{items_of, lines_at, start_state, text_lines, up_to_end}
use Rattle.xn_proof.specs.Proofs.{answer_of}
use Rattle.xn_proof.specs.Reading.{◌>>=◌}
use Rattle.xn_proof.specs.Spelling.{text_of}
use Rattle.xn_proof.specs.WellFormed.{WellFormed}
use Rattle.xn_proof.specs.declared.item.Item.{Item}
use Rattle.xn_proof.proofs.AnswerLines.{lines_say_its_items}
use Rattle.xn_proof.proofs.AnswerTexts.{answer_takes, spelled_is_read}
use Rattle.xn_proof.proofs.Steps.{bind_ok, ok_is}
use Rattle.xn_check.specs.Judging.{JudgesTo, Rules}
use Rattle.xn_check.proofs.Items.{AllAgree, all_said, judges, reads}

module _ {S A : Type 0} (rules : Rules S A) (text : List ℕ) (out : A) where
  -- the text spells an answer, each of whose lines means what it must, with this outcome
  pub record SaysAnswer : Type 0 where
    pub answer : Answer
    pub well_formed : WellFormed answer
    pub text_is : text ≡ text_of answer
    pub agree : AllAgree rules rules.start (items_of answer)
    pub out_is : out ≡ rules.answer (all_said rules rules.start (items_of answer))

  pub says : JudgesTo rules text (Ok out) → SaysAnswer
  says verdict =
      let read = reads rules (text_lines text) start_state rules.start out verdict in
      let whole : (answer_of text >>= λ a. Ok (items_of a)) ≡ Ok read.items = (lines_say_its_items text read.items).0 read.read in
      let found = bind_ok (answer_of text) (λ a. Ok (items_of a)) read.items whole in
      let same : read.items ≡ items_of found.0 = sym (ok_is (items_of found.0) read.items found.2) in
      let spelled = answer_takes text found.0 found.1 in
      record {
        answer = found.0;
        well_formed = spelled.0;
        text_is = spelled.1;
        agree = subst (AllAgree rules rules.start) same read.agree;
        out_is = read.answer_is ∙ ap (λ (xs : List Item). rules.answer (all_said rules rules.start xs)) same;
      }

  pub said_so : SaysAnswer → JudgesTo rules text (Ok out)
  said_so h =
      let is : answer_of text ≡ Ok h.answer = ap answer_of h.text_is ∙ spelled_is_read h.answer h.well_formed in
      let read : up_to_end (lines_at start_state (text_lines text)) ≡ Ok (items_of h.answer) =
      (lines_say_its_items text (items_of h.answer)).1 (ap (λ (r : Result Answer Flaw). r >>= λ a. Ok (items_of a)) is) in
      subst (λ (x : A). JudgesTo rules text (Ok x)) (sym h.out_is)
      (judges rules (text_lines text) start_state rules.start (items_of h.answer) read h.agree)
