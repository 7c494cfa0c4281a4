-- Texts judged line by line, by whatever rules.
use Rattle.std.specs.Prelude.{◌≡◌, ◌⊎◌, ℕ, Bool, true, false, List, [], ◌∷◌, Result, Ok, Err, if◌then◌else◌}
use Rattle.xn_kinds.specs.declared.flaws.Flaw.{Flaw}
use Rattle.xn_kinds.specs.declared.flaws.FlawKind.{FlawKind}
use Rattle.xn_proof.specs.Forms.{Line, Reached, is_end, next_at, start_state, text_lines}
use Rattle.xn_proof.specs.Reading.{syntax}
use Rattle.xn_proof.specs.declared.flaw.AnswerErr.{AnswerErr}
use Rattle.xn_proof.specs.declared.flaw.AnswerErr.TheVariants as errors
use Rattle.xn_proof.specs.declared.item.Item.{Item}

-- what lines have to mean beyond their form, by what those before them said
pub record Rules (S A : Type 0) : Type 1 where
  -- what is said before the first line, and with one line more
  pub start : S
  pub more : S → Item → S
  -- the line means what it must, or means something else and this is wrong with it
  pub agrees : S → Item → Type 0
  pub fails : S → Item → FlawKind → Type 0
  -- what comes of a text of which each line keeps its rules
  pub answer : S → A

-- no line is left: the text has come to the end of its answer, or the next line is missing
abbrev pub AtEnd : {S A : Type 0} → Rules S A → Bool → ℕ → S → Result A Flaw → Type 0
AtEnd rules true number s outcome = outcome ≡ Ok (rules.answer s)
AtEnd rules false number s outcome = outcome ≡ Err (syntax number)

-- a line with this number: it breaks its form, or it means what it must and the rest is judged, or it means something else
abbrev pub OnLine : {S A : Type 0} → Rules S A → S → ℕ → Result (Item × Reached) Flaw → (Reached → S → Type 0) → Result A Flaw → Type 0
OnLine rules s number (Err flaw) Rest outcome = outcome ≡ Err flaw
OnLine rules s number (Ok next) Rest outcome =
    (rules.agrees s next.0 × Rest next.1 (rules.more s next.0))
    ⊎ ((kind : FlawKind) × rules.fails s next.0 kind × (outcome ≡ Err (record { line = number; kind = kind })))

-- the outcome of the lines after those that led to a state and said this
abbrev pub Judges : {S A : Type 0} → Rules S A → Reached → S → List Line → Result A Flaw → Type 0
Judges rules at s [] outcome = AtEnd rules (is_end at.1) at.0 s outcome
Judges rules at s (line ∷ lines) outcome =
    OnLine rules s at.0 (next_at at line) (λ later said. Judges rules later said lines outcome) outcome

-- the outcome of a text
abbrev pub JudgesTo : {S A : Type 0} → Rules S A → List ℕ → Result A Flaw → Type 0
JudgesTo rules text outcome = Judges rules start_state rules.start (text_lines text) outcome

-- the line with this number is refused for what is wrong, or memory was wanting
abbrev pub RefusesLine : ℕ → (FlawKind → Type 0) → AnswerErr → Type 0
RefusesLine number Wrong (errors.Refused flaw) = Wrong flaw.kind × (flaw.line ≡ number)
RefusesLine number Wrong errors.Memory = Unit {0}

-- a line with this number was judged by what was said: it means what it must and is kept, or is refused for what is wrong with
-- it, or memory ran out
abbrev pub Judged : {S A : Type 0} → Rules S A → S → ℕ → Item → S → Result (Unit {0}) AnswerErr → Type 0
Judged rules s number line t (Ok u) = rules.agrees s line × (t ≡ rules.more s line)
Judged rules s number line t (Err e) = RefusesLine number (rules.fails s line) e

-- a line keeps its form and means what it must: it leads to this state, and then this is said
abbrev pub KeepsRules : {S A : Type 0} → Rules S A → S → Result (Item × Reached) Flaw → Reached → S → Type 0
KeepsRules rules s (Ok next) later t = rules.agrees s next.0 × (later ≡ next.1) × (t ≡ rules.more s next.0)
KeepsRules rules s (Err flaw) later t = ⊥

-- it breaks its form or means something else, or memory ran out
abbrev pub StopsAt : {S A : Type 0} → Rules S A → S → ℕ → Result (Item × Reached) Flaw → AnswerErr → Type 0
StopsAt rules s number next errors.Memory = Unit {0}
StopsAt rules s number (Ok next) (errors.Refused flaw) = rules.fails s next.0 flaw.kind × (flaw.line ≡ number)
StopsAt rules s number (Err broken) (errors.Refused flaw) = broken ≡ flaw

-- a line was judged, its form and its meaning, after lines that led to a state and said this
abbrev pub Took : {S A : Type 0} → Rules S A → Reached → S → Line → Reached → S → Result (Unit {0}) AnswerErr → Type 0
Took rules at s line later t (Ok u) = KeepsRules rules s (next_at at line) later t
Took rules at s line later t (Err e) = StopsAt rules s at.0 (next_at at line) e

-- what comes of a text where no line is left: this, or the flaw of a missing line
abbrev pub at_end : {A : Type 0} → Reached → A → Result A AnswerErr
at_end at a = if is_end at.1 then Ok a else Err (errors.Refused (syntax at.0))
