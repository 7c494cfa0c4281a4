-- How a run ends as its caller sees it: by the exit code, and what is said on standard error.
use Rattle.std.specs.Prelude.{◌≡◌, ◌⊎◌, ℕ, Bool, List, Option, Some, IfSome, IfNone}
use Rattle.std.specs.Io.KnownBytes.{Appends}
use Rattle.xn_io.specs.Causes.{Rose}
use Rattle.xn_io.specs.Input.{Files, bytes_of}
use Rattle.xn_io.specs.Sink.{TakesPart}
use Rattle.xn_command.specs.Request.{Request, check, draw, examine, sample, solve}
use Rattle.xn_app.specs.declared.status.Status.{Status}
use Rattle.xn_app.specs.declared.status.Status.TheVariants.{Done, Undecided, Words, Write, Memory}
use Rattle.xn_app.specs.Ends.{Ran, RanAlone, SaysBounds, SaysCrossingNumber, SaysDrawing, SaysSampleNumber, SaysSampleUndecided, SaysShown, SaysUndecided, Told}
use Rattle.xn_app.specs.Files.{IsLast, IsLastBegun, Shows, WithFile}
use Rattle.xn_app.specs.Outcome.{AreOneEnd, ComesTo, Outcome, Sampled}
use Rattle.xn_app.specs.Status.{IsAside, IsJudgedEnd, IsSilent, IsStarted, code_of}
use Rattle.xn_app.specs.Texts.{told_line}

-- what an input shows of a run: what it tells, the name begun last, the counts of faults before and after, and whether a call
-- failed and how many bytes were given since that begin
pub record Reading : Type 0 where
  pub told : Option Files
  pub name : Option (List ℕ)
  pub before : ℕ
  pub after : ℕ
  pub failed : Bool
  pub got : ℕ

-- what a sink shows of a run: what it took, and the counts of faults, before and after
pub record Writing : Type 0 where
  pub old : Option (List ℕ)
  pub new : Option (List ℕ)
  pub before : ℕ
  pub after : ℕ

-- the line of an end was written, or a part from its front and the sink failed
abbrev pub Says : Status → Writing → Type 0
Says end errors =
    Appends errors.old errors.new (told_line end)
    ⊎ (TakesPart errors.old errors.new (told_line end) × Rose errors.before errors.after)

-- of this end all holds that `top` says, clause by clause
pub record IsEnd (asked : Option Request) (input : Reading) (out : Writing) (end : Status) : Type 0 where
  pub no_words : IfNone asked ((end ≡ Words) ⊎ (end ≡ Memory))
  pub words : IfSome asked (λ r. (end ≡ Words) → ⊥)
  pub ran : Told asked input.told (λ r files. Ran (ComesTo files r) end out.old out.new)
  pub exact : Told asked input.told (λ r files. (outcome : Outcome) → ComesTo files r outcome → IsAside end ⊎ AreOneEnd r end outcome.0)
  pub bounds : (graph answer : List ℕ) → asked ≡ Some (check graph answer) → end ≡ Done →
      IfSome input.told (λ files. SaysBounds (bytes_of files graph) out.old out.new)
  pub drawing : (answer : List ℕ) → asked ≡ Some (examine answer) → end ≡ Done →
      IfSome input.told (λ files. SaysDrawing (bytes_of files answer) out.old out.new)
  pub shown : (graph answer : List ℕ) → asked ≡ Some (draw graph answer) → end ≡ Done →
      IfSome input.told (λ files. SaysShown (bytes_of files graph) (bytes_of files answer) out.old out.new)
  pub number : (graph : List ℕ) (budget : ℕ) → asked ≡ Some (solve graph budget) → end ≡ Done →
      IfSome input.told (λ files. SaysCrossingNumber (bytes_of files graph) budget out.old out.new)
  pub undecided : (graph : List ℕ) (budget lower upper spent : ℕ) → asked ≡ Some (solve graph budget) → end ≡ Undecided lower upper spent →
      IfSome input.told (λ files. SaysUndecided (bytes_of files graph) budget lower upper spent out.old out.new)
  pub alone : (nodes budget : ℕ) → asked ≡ Some (sample nodes budget) → RanAlone (Sampled budget nodes) end out.old out.new
  pub sample_number : (nodes budget : ℕ) → asked ≡ Some (sample nodes budget) → end ≡ Done → SaysSampleNumber nodes budget out.old out.new
  pub sample_undecided : (nodes budget lower upper spent : ℕ) → asked ≡ Some (sample nodes budget) → end ≡ Undecided lower upper spent →
      SaysSampleUndecided nodes budget lower upper spent out.old out.new
  pub shows : IfSome asked (λ r. WithFile r (Shows input.told input.name input.before input.after input.failed input.got end))
  pub begun : IfSome asked (λ r. IsStarted end → IsLastBegun input.told input.name r)
  pub last : IfSome asked (λ r. IsJudgedEnd end → IsLast input.name r)
  pub write : end ≡ Write → Rose out.before out.after
  pub untouched : IsSilent end → (out.new ≡ out.old) × (out.after ≡ out.before)

-- a run has an end, and the exit code and what was said are those of this end
pub record Exits (asked : Option Request) (input : Reading) (out errors : Writing) (code : ℕ) : Type 0 where
  pub end : Status
  pub ends : IsEnd asked input out end
  pub code_is : code ≡ code_of end
  pub says : Says end errors

-- a run has an end to which the exit code belongs and what was said; standard output failed where the end says so, and is as
-- before where the end is silent
pub record Leaves (out errors : Writing) (code : ℕ) : Type 0 where
  pub end : Status
  pub code_is : code ≡ code_of end
  pub says : Says end errors
  pub write : end ≡ Write → Rose out.before out.after
  pub untouched : IsSilent end → (out.new ≡ out.old) × (out.after ≡ out.before)

-- the exit code of some end
abbrev pub IsCode : ℕ → Type 0
IsCode code = (end : Status) × (code ≡ code_of end)
