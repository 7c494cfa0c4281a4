-- What the calls of the checker give.
use Rattle.std.specs.Prelude.{ℕ, List, Result, Ok, Err}
use Rattle.xn_model.specs.Graph.{Graph}
use Rattle.xn_draw.specs.declared.results.Seen.{Seen}
use Rattle.xn_kinds.specs.declared.drawings.Drawing.{Drawing}
use Rattle.xn_proof.specs.declared.flaw.AnswerErr.{AnswerErr}
use Rattle.xn_proof.specs.declared.flaw.AnswerErr.TheVariants as errors
use Rattle.xn_check.specs.Judging.{JudgesTo, Rules}
use Rattle.xn_check.specs.Verdict.{check_rules, draw_rules, front_rules}
use Rattle.xn_check.specs.declared.verdicts.Accepted.{Accepted}

-- a text is refused by the rules for its first flaw, or memory ran out
abbrev pub RefusesText : {S A : Type 0} → Rules S A → List ℕ → AnswerErr → Type 0
RefusesText rules text (errors.Refused flaw) = JudgesTo rules text (Err flaw)
RefusesText rules text errors.Memory = Unit {0}

-- what a function returned is the verdict, unless memory ran out
abbrev pub GivesVerdict : Graph → ℕ → List ℕ → Result Accepted AnswerErr → Type 0
GivesVerdict g loops text (Ok a) = JudgesTo (check_rules g loops) text (Ok (a.lower, a.upper))
GivesVerdict g loops text (Err e) = RefusesText (check_rules g loops) text e

-- the same of the drawing alone
abbrev pub GivesDrawing : Graph → ℕ → List ℕ → Result Drawing AnswerErr → Type 0
GivesDrawing g loops text (Ok drawing) = JudgesTo (draw_rules g loops) text (Ok drawing)
GivesDrawing g loops text (Err e) = RefusesText (draw_rules g loops) text e

-- the same of the drawing and its graph
abbrev pub GivesSeen : List ℕ → Result Seen AnswerErr → Type 0
GivesSeen text (Ok seen) = JudgesTo front_rules text (Ok seen)
GivesSeen text (Err e) = RefusesText front_rules text e

-- bounds as they are told, lower and upper
abbrev pub bounds_in : Result Accepted AnswerErr → Result (ℕ × ℕ) AnswerErr
bounds_in (Ok a) = Ok (a.lower, a.upper)
bounds_in (Err e) = Err e
