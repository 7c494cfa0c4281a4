-- What an end says of the files, and of what was written.
use Rattle.std.proofs.Common.{◌≡◌, ℕ, Bool, inl, inr, List, Option, None, Some, IfSome, sym, subst, ◌∙◌}
use Rattle.std.specs.Io.KnownBytes.{Appends}
use Rattle.xn_io.specs.Input.{Files}
use Rattle.xn_command.specs.Request.{Request, check, draw, examine, sample, solve}
use Rattle.xn_app.specs.Ends.{Finishes, Ran}
use Rattle.xn_app.specs.Files.{IsFine, Shows, WithFile, WithoutFile}
use Rattle.xn_app.specs.Outcome.{ComesTo, Outcome}
use Rattle.xn_app.specs.Status.{IsVerdictEnd}
use Rattle.xn_app.specs.declared.status.Status.{Status}
use Rattle.xn_app.specs.declared.status.Status.TheVariants.{Done, Refused, Words, Graph, Limit, Read, Undecided, Write, Memory}

-- ---- the bytes of a judged end

wrote_all : (Comes : Outcome → Type 0) (end : Status) (output : List ℕ) (old new : Option (List ℕ)) → IsVerdictEnd end → Comes (end, output) → Appends old new output → Ran Comes end old new
wrote_all Comes Done output old new judged comes written = record { output = output; comes = comes; written = written }
wrote_all Comes (Refused flaw) output old new judged comes written = record { output = output; comes = comes; written = written }
wrote_all Comes (Undecided lower upper spent) output old new judged comes written = record { output = output; comes = comes; written = written }
wrote_all Comes Write output old new judged comes written = absurd judged
wrote_all Comes Words output old new judged comes written = absurd judged
wrote_all Comes (Graph e) output old new judged comes written = absurd judged
wrote_all Comes (Limit l) output old new judged comes written = absurd judged
wrote_all Comes Read output old new judged comes written = absurd judged
wrote_all Comes Memory output old new judged comes written = absurd judged

pub finished : (Comes : Outcome → Type 0) (end : Status) (output : List ℕ) (old new : Option (List ℕ)) (before after : ℕ) (result : Status) → IsVerdictEnd end → Comes (end, output) → Finishes end output old new before after result → Ran Comes result old new
finished Comes end output old new before after result judged comes (inl all) =
    subst (λ s. Ran Comes s old new) (sym all.0) (wrote_all Comes end output old new judged comes all.1)
finished Comes end output old new before after result judged comes (inr part) =
    subst (λ s. Ran Comes s old new) (sym part.0) (record { outcome = (end, output); comes = comes; written = part.1 })

-- a judged end isn't one of the words
pub never_words : (end : Status) (output : List ℕ) (old new : Option (List ℕ)) (before after : ℕ) (result : Status) → IsVerdictEnd end → Finishes end output old new before after result → result ≡ Words → ⊥
never_words end output old new before after result judged (inl all) words = subst IsVerdictEnd (sym all.0 ∙ words) judged
never_words end output old new before after result judged (inr part) words = let e : Write ≡ Words = sym part.0 ∙ words in cc

-- ---- what was asked, and what the files tell

-- what is said of what a command asks for is said of what the words ask for
pub asked_is : (asked : Option Request) (r : Request) (P : Request → Type 0) → asked ≡ Some r → P r → IfSome asked P
asked_is asked r P is p = subst (λ o. IfSome o P) (sym is) p

-- two things that the words ask for are one
pub asked_same : (asked : Option Request) (r s : Request) → asked ≡ Some r → asked ≡ Some s → r ≡ s
asked_same asked r s first second = some_is r s (sym first ∙ second)
  where
    some_is : (r s : Request) → Some r ≡ Some s → r ≡ s
    some_is r s e = cc

-- words that ask for nothing ask for no such thing
pub never_asked : (asked : Option Request) (r : Request) → asked ≡ None → asked ≡ Some r → ⊥
never_asked asked r first second = none_is r (sym first ∙ second)
  where
    none_is : (r : Request) → Path (Option Request) None (Some r) → ⊥
    none_is r e = cc

-- what holds where the command has no file holds where the words ask for a sample
pub without_file : {P : Type 0} (asked : Option Request) (r : Request) (nodes budget : ℕ) → asked ≡ Some r → asked ≡ Some (sample nodes budget) → WithoutFile r P → P
without_file {P} asked r nodes budget first second holds = subst (λ (s : Request). WithoutFile s P) (asked_same asked r (sample nodes budget) first second) holds

-- a run whose output was made
pub ran_on : (told : Option Files) (r : Request) (end : Status) (output : List ℕ) (old new : Option (List ℕ)) (before after : ℕ) (result : Status) → IsVerdictEnd end →
    Finishes end output old new before after result → IfSome told (λ files. ComesTo files r (end, output)) → IfSome told (λ files. Ran (ComesTo files r) result old new)
ran_on None r end output old new before after result judged finishes comes = tt
ran_on (Some files) r end output old new before after result judged finishes comes =
    finished (ComesTo files r) end output old new before after result judged comes finishes

-- ---- what the input shows

pub with_file : (r : Request) (P : Type 0) → P → WithFile r P
with_file (sample nodes budget) P p = tt
with_file (solve graph budget) P p = p
with_file (check graph answer) P p = p
with_file (examine answer) P p = p
with_file (draw graph answer) P p = p

with_file_map : (r : Request) (P Q : Type 0) → (P → Q) → WithFile r P → WithFile r Q
with_file_map (sample nodes budget) P Q f p = tt
with_file_map (solve graph budget) P Q f p = f p
with_file_map (check graph answer) P Q f p = f p
with_file_map (examine answer) P Q f p = f p
with_file_map (draw graph answer) P Q f p = f p

judged_shows : (told : Option Files) (begun : Option (List ℕ)) (before after : ℕ) (failed : Bool) (got : ℕ) (end : Status) → IsVerdictEnd end → IsFine failed got → Shows told begun before after failed got end
judged_shows told begun before after failed got Done judged fine = fine
judged_shows told begun before after failed got (Refused flaw) judged fine = fine
judged_shows told begun before after failed got (Undecided lower upper spent) judged fine = fine
judged_shows told begun before after failed got Write judged fine = absurd judged
judged_shows told begun before after failed got Words judged fine = absurd judged
judged_shows told begun before after failed got (Graph e) judged fine = absurd judged
judged_shows told begun before after failed got (Limit l) judged fine = absurd judged
judged_shows told begun before after failed got Read judged fine = absurd judged
judged_shows told begun before after failed got Memory judged fine = absurd judged

-- a run whose output was made
pub finished_shows : (r : Request) (told : Option Files) (begun : Option (List ℕ)) (early late : ℕ) (failed : Bool) (got : ℕ) (end : Status) (output : List ℕ) (old new : Option (List ℕ)) (before after : ℕ) (result : Status) →
    IsVerdictEnd end → Finishes end output old new before after result → WithFile r (IsFine failed got) → WithFile r (Shows told begun early late failed got result)
finished_shows r told begun early late failed got end output old new before after result judged (inl all) fine =
    with_file_map r (IsFine failed got) (Shows told begun early late failed got result)
    (λ f. subst (λ s. Shows told begun early late failed got s) (sym all.0) (judged_shows told begun early late failed got end judged f)) fine
finished_shows r told begun early late failed got end output old new before after result judged (inr part) fine =
    with_file_map r (IsFine failed got) (Shows told begun early late failed got result)
    (λ f. subst (λ s. Shows told begun early late failed got s) (sym part.0) f) fine
