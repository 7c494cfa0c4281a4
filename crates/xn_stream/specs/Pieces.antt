-- What is known of a text of which more may come.
use Rattle.std.specs.Prelude.{◌≡◌, ◌⊎◌, ℕ, ◌<◌, Bool, true, false, List, [], ◌∷◌, ◌++◌, All, length, Result, Ok, Err}
use Rattle.xn_kinds.specs.declared.flaws.Flaw.{Flaw}
use Rattle.xn_text.specs.Pieces.{Lacks}
use Rattle.xn_proof.specs.Forms.{Reached, is_end, next_at, start_state}
use Rattle.xn_proof.specs.Reading.{trailing}
use Rattle.xn_proof.specs.declared.flaw.AnswerErr.{AnswerErr}
use Rattle.xn_proof.specs.declared.flaw.AnswerErr.TheVariants as errors
use Rattle.xn_proof.specs.declared.item.Item.{Item}
use Rattle.xn_check.specs.Judging.{Rules, StopsAt}

-- ---- whole lines

-- lines, each ended by the byte 10
abbrev pub whole_lines : List (List ℕ) → List ℕ
whole_lines [] = []
whole_lines (line ∷ lines) = line ++ 10 ∷ whole_lines lines

-- a line keeps its form and means what it must, and so does the rest
abbrev pub OnKept : {S A : Type 0} → Rules S A → S → Result (Item × Reached) Flaw → (Reached → S → Type 0) → Type 0
OnKept rules s (Ok next) Rest = rules.agrees s next.0 × Rest next.1 (rules.more s next.0)
OnKept rules s (Err flaw) Rest = ⊥

-- lines that are ended, each of which means what it must, lead from one state and what was said to another
abbrev pub LeadTo : {S A : Type 0} → Rules S A → Reached → S → List (List ℕ) → Reached → S → Type 0
LeadTo rules at s [] later t = (later ≡ at) × (t ≡ s)
LeadTo rules at s (line ∷ lines) later t =
    OnKept rules s (next_at at (line, true)) (λ reached said. LeadTo rules reached said lines later t)

-- bytes are whole lines, each of which means what it must, and these lead to a state and said this
pub record AreLines {S A : Type 0} (rules : Rules S A) (bytes : List ℕ) (at : Reached) (s : S) : Type 0 where
  pub lines : List (List ℕ)
  pub bytes_are : bytes ≡ whole_lines lines
  pub lack : All (Lacks 10) lines
  pub lead : LeadTo rules start_state rules.start lines at s

-- ---- a text so far

-- the text is such lines and the begin of the next, and nothing stands behind the line `end`
pub record HasCome {S A : Type 0} (rules : Rules S A) (text : List ℕ) (at : Reached) (s : S) (begun : List ℕ) : Type 0 where
  pub whole : List ℕ
  pub lines : AreLines rules whole at s
  pub text_is : text ≡ whole ++ begun
  pub lacks : Lacks 10 begun
  pub none_behind : is_end at.1 ≡ true → begun ≡ []

-- behind such lines stands a byte after the line `end`, or a line that is ended and fails
abbrev pub FailsNext : {S A : Type 0} → Rules S A → Reached → S → List ℕ → Flaw → Type 0
FailsNext rules at s rest flaw =
    ((is_end at.1 ≡ true) × (0 < length rest) × (flaw ≡ trailing at.0))
    ⊎ ((line : List ℕ) × (more : List ℕ) × (rest ≡ line ++ 10 ∷ more) × Lacks 10 line
    × StopsAt rules s at.0 (next_at at (line, true)) (errors.Refused flaw))

-- the text holds such lines, and then this flaw: so it is refused, whatever comes
pub record HoldsFlaw {S A : Type 0} (rules : Rules S A) (text : List ℕ) (flaw : Flaw) : Type 0 where
  pub whole : List ℕ
  pub rest : List ℕ
  pub at : Reached
  pub said : S
  pub lines : AreLines rules whole at said
  pub text_is : text ≡ whole ++ rest
  pub fails : FailsNext rules at said rest flaw

-- ---- what a call finds

-- the text has come to here, or it holds this flaw, or memory was wanting
abbrev pub ComesOrFails : {S A : Type 0} → Rules S A → List ℕ → Reached → S → List ℕ → Result (Unit {0}) AnswerErr → Type 0
ComesOrFails rules text at s begun (Ok u) = HasCome rules text at s begun
ComesOrFails rules text at s begun (Err (errors.Refused flaw)) = HoldsFlaw rules text flaw
ComesOrFails rules text at s begun (Err errors.Memory) = Unit {0}

-- the text is refused exactly for its flaw, or memory was wanting
abbrev pub RefusesExactly : {S A : Type 0} → Rules S A → List ℕ → Result (Unit {0}) AnswerErr → Type 0
RefusesExactly rules text (Ok u) = (flaw : Flaw) → HoldsFlaw rules text flaw → ⊥
RefusesExactly rules text (Err (errors.Refused flaw)) = HoldsFlaw rules text flaw
RefusesExactly rules text (Err errors.Memory) = Unit {0}

-- a part of a line, with its end or not
abbrev pub with_end : List ℕ → Bool → List ℕ
with_end bytes true = bytes ++ 10 ∷ []
with_end bytes false = bytes
