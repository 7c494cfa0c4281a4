-- What a checker in pieces keeps, and which texts it stands for.
use Rattle.std.specs.Prelude.{◌≡◌, ◌≢◌, ℕ, List, ◌++◌, Option, Some, None, Result, Ok, Err}
use Rattle.xn_proof.specs.declared.flaw.AnswerErr.{AnswerErr}
use Rattle.xn_proof.specs.declared.flaw.AnswerErr.TheVariants as errors
use Rattle.xn_check.specs.Gives.{GivesVerdict}
use Rattle.xn_check.specs.Judge.{IsReady, Kept, graph_kept, rules_of, said_of}
use Rattle.xn_check.specs.Judging.{Rules}
use Rattle.xn_check.specs.Said.{Said}
use Rattle.xn_check.specs.declared.verdicts.Accepted.{Accepted}
use Rattle.xn_stream.specs.Pieces.{ComesOrFails, HasCome, HoldsFlaw, RefusesExactly}

-- the judge of the lines so far, which has the graph and the loops, the line that isn't ended, and why it refused
pub record Stream : Type 0 where
  pub judge : Kept
  pub begun : List ℕ
  pub refused : Option AnswerErr

abbrev pub stream_of : Kept → List ℕ → Option AnswerErr → Stream
stream_of judge begun refused = record { judge = judge; begun = begun; refused = refused }

-- the rules for the graph and the loops
abbrev pub rules_in : Stream → Rules Said (ℕ × ℕ)
rules_in v = rules_of v.judge

-- the next line may be judged, unless it refused
abbrev pub IsOpen : Stream → Type 0
IsOpen v = v.refused ≡ None → IsReady v.judge

-- what is known of a text by a refusal or without one: after want of memory it is none
abbrev pub IsKnownBy : Stream → Option AnswerErr → List ℕ → Type 0
IsKnownBy v None text = HasCome (rules_in v) text v.judge.at (said_of v.judge) v.begun
IsKnownBy v (Some (errors.Refused flaw)) text = HoldsFlaw (rules_in v) text flaw
IsKnownBy v (Some errors.Memory) text = ⊥

-- the checker stands for the text
abbrev pub StandsForText : Stream → List ℕ → Type 0
StandsForText v text = IsKnownBy v v.refused text

-- what a call answers
abbrev pub answer_by : Option AnswerErr → Result (Unit {0}) AnswerErr
answer_by None = Ok tt
answer_by (Some e) = Err e

-- ---- what calls do

-- from each text that has come to a state and a begun line, the judge goes on with this piece to what it finds of both
abbrev pub LeadsOn : Kept → List ℕ → List ℕ → Kept → List ℕ → Result (Unit {0}) AnswerErr → Type 0
LeadsOn old begun piece new after r =
    (text : List ℕ) → HasCome (rules_of old) text old.at (said_of old) begun →
    ComesOrFails (rules_of old) (text ++ piece) new.at (said_of new) after r

-- it stands for each text that it stood for, with this piece behind; after want of memory for none
abbrev pub StandsOn : Stream → List ℕ → Stream → Result (Unit {0}) AnswerErr → Type 0
StandsOn old piece new r =
    (text : List ℕ) → StandsForText old text → r ≢ Err errors.Memory → StandsForText new (text ++ piece)

-- each such text is refused exactly for its flaw
abbrev pub RefusesByText : Stream → List ℕ → Result (Unit {0}) AnswerErr → Type 0
RefusesByText old piece r =
    (text : List ℕ) → StandsForText old text → RefusesExactly (rules_in old) (text ++ piece) r

-- the verdict on each text that it stands for
abbrev pub GivesVerdictOn : Stream → Result Accepted AnswerErr → Type 0
GivesVerdictOn v r = (text : List ℕ) → StandsForText v text → GivesVerdict (graph_kept v.judge) v.judge.loops text r
