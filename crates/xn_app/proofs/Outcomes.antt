-- What a verdict leads to, and what an end says of it.
use Rattle.std.proofs.Common.{◌≡◌, ℕ, List, Option, None, Some, IfSome, Result, Ok, Err, refl, ap, subst}
use Rattle.std.specs.Io.KnownBytes.{Appends}
use Rattle.std.specs.Map.{keys_of}
use Rattle.xn_io.specs.Input.{Files, bytes_of}
use Rattle.xn_check.specs.Laws.{AcceptedTextBounds, DrawnWhereSpelled, SeenWhereSpelled}
use Rattle.xn_check.specs.Verdict.{DrawVerdict, FrontVerdict, Verdict}
use Rattle.xn_gml.specs.Meaning.{Found, graph_of_text}
use Rattle.xn_gml.specs.declared.errors.GmlErr.{GmlErr}
use Rattle.xn_gml.specs.declared.errors.GmlErr.TheVariants as gml
use Rattle.xn_kinds.specs.declared.flaws.Flaw.{Flaw}
use Rattle.xn_proof.specs.Refusal.{flaw_line}
use Rattle.xn_command.specs.Request.{Request, check, draw, examine}
use Rattle.xn_show.specs.Text.{show_text}
use Rattle.xn_app.specs.Ends.{Ran, SaysBounds, SaysDrawing, SaysShown, Wrote}
use Rattle.xn_app.specs.Outcome.{Checked, ComesTo, Drawn, Examined, IsByVerdict, OnGraph, Outcome, outcome_of, refused_graph}
use Rattle.xn_app.specs.Output.{accepted_line, seen_line}
use Rattle.xn_app.specs.declared.status.Status.{Status}
use Rattle.xn_app.specs.declared.status.Status.TheVariants.{Done, Refused}
use Rattle.xn_app.proofs.Graphs.{limited}

pub accepted : {V : Type 0} (HasVerdict : Result V Flaw → Type 0) (text : V → List ℕ) (v : V) (output : List ℕ) → HasVerdict (Ok v) → output ≡ text v → IsByVerdict HasVerdict text (Done, output)
accepted HasVerdict text v output holds is = record { verdict = Ok v; holds = holds; outcome_is = ap (λ o. (Done, o)) is }

pub refused : {V : Type 0} (HasVerdict : Result V Flaw → Type 0) (text : V → List ℕ) (flaw : Flaw) (output : List ℕ) → HasVerdict (Err flaw) → output ≡ flaw_line flaw → IsByVerdict HasVerdict text (Refused flaw, output)
refused HasVerdict text flaw output holds is = record { verdict = Err flaw; holds = holds; outcome_is = ap (λ o. (Refused flaw, o)) is }

-- ---- Done

-- a value was accepted, and its text written
record WasAccepted {V : Type 0} (HasVerdict : Result V Flaw → Type 0) (text : V → List ℕ) (output : List ℕ) : Type 0 where
  value : V
  holds : HasVerdict (Ok value)
  output_is : output ≡ text value

accepted_by : {V : Type 0} (HasVerdict : Result V Flaw → Type 0) (text : V → List ℕ) (output : List ℕ) (verdict : Result V Flaw) → HasVerdict verdict → (Done, output) ≡ outcome_of text verdict → WasAccepted HasVerdict text output
accepted_by HasVerdict text output (Ok v) holds is = record { value = v; holds = holds; output_is = ap (λ (o : Outcome). o.1) is }
accepted_by HasVerdict text output (Err flaw) holds is = let e : Done ≡ Refused flaw = ap (λ (o : Outcome). o.0) is in absurd cc

was_accepted : {V : Type 0} (HasVerdict : Result V Flaw → Type 0) (text : V → List ℕ) (output : List ℕ) → IsByVerdict HasVerdict text (Done, output) → WasAccepted HasVerdict text output
was_accepted HasVerdict text output judged = accepted_by HasVerdict text output judged.verdict judged.holds judged.outcome_is

says_drawing : (law : SeenWhereSpelled) (text : List ℕ) (old new : Option (List ℕ)) → Wrote (Examined text) Done old new → SaysDrawing text old new
says_drawing law text old new wrote =
    let a = was_accepted (FrontVerdict text) seen_line wrote.output wrote.comes in
    record { seen = a.value; spelled = (law text a.value).0 a.holds; written = subst (λ (o : List ℕ). Appends old new o) a.output_is wrote.written }

-- Done where a drawing is examined
pub examined_done : (law : SeenWhereSpelled) (told : Option Files) (answer : List ℕ) (asked : Request) (end : Status) (old new : Option (List ℕ)) → asked ≡ examine answer → end ≡ Done →
    IfSome told (λ files. Ran (ComesTo files asked) end old new) →
    IfSome told (λ files. SaysDrawing (bytes_of files answer) old new)
examined_done law None answer asked end old new is done ran = tt
examined_done law (Some files) answer asked end old new is done ran =
    let ran_done = subst (λ (r : Request). Ran (ComesTo files r) Done old new) is (subst (λ s. Ran (ComesTo files asked) s old new) done ran) in
    says_drawing law (bytes_of files answer) old new ran_done

not_done : (e : GmlErr) → Done ≡ refused_graph e → ⊥
not_done gml.TooManyNodes d = cc
not_done gml.TooManyEdges d = cc
not_done gml.Memory d = cc
not_done (gml.Syntax at) d = cc
not_done (gml.Deep at) d = cc
not_done gml.NoGraph d = cc
not_done (gml.SecondGraph at) d = cc
not_done (gml.NoId at) d = cc
not_done (gml.Repeated at) d = cc
not_done (gml.Unknown at) d = cc
not_done (gml.Range at) d = cc

pub done_is_no_graph : (e : GmlErr) (output : List ℕ) (Rest : Found → Outcome → Type 0) → OnGraph (Err e) Rest (Done, output) → ⊥
done_is_no_graph e output Rest is = not_done e (ap (λ (o : Outcome). o.0) is)

says_bounds : (law : AcceptedTextBounds) (graph_text text : List ℕ) (read : Result Found GmlErr) (old new : Option (List ℕ)) → graph_of_text graph_text ≡ read →
    Wrote (OnGraph read (Checked text)) Done old new → SaysBounds graph_text old new
says_bounds law graph_text text (Ok found) old new is wrote =
    let a = was_accepted (Verdict found.graph found.loops text) accepted_line wrote.output wrote.comes in
    let small = limited graph_text found is in
    let shown = law found.graph found.loops text a.value.0 a.value.1 small.is_graph a.holds in
    record {
      found = found;
      graph_is = is;
      is_graph = small;
      lower = a.value.0;
      upper = a.value.1;
      least = shown.0;
      at_most = shown.1;
      written = subst (λ (o : List ℕ). Appends old new o) a.output_is wrote.written;
    }
says_bounds law graph_text text (Err e) old new is wrote = absurd (done_is_no_graph e wrote.output (Checked text) wrote.comes)

-- Done where an answer is checked
pub checked_done : (law : AcceptedTextBounds) (told : Option Files) (graph answer : List ℕ) (asked : Request) (end : Status) (old new : Option (List ℕ)) → asked ≡ check graph answer → end ≡ Done →
    IfSome told (λ files. Ran (ComesTo files asked) end old new) → IfSome told (λ files. SaysBounds (bytes_of files graph) old new)
checked_done law None graph answer asked end old new is done ran = tt
checked_done law (Some files) graph answer asked end old new is done ran =
    let ran_done = subst (λ (r : Request). Ran (ComesTo files r) Done old new) is (subst (λ s. Ran (ComesTo files asked) s old new) done ran) in
    says_bounds law (bytes_of files graph) (bytes_of files answer) (graph_of_text (bytes_of files graph)) old new refl ran_done

says_shown : (law : DrawnWhereSpelled) (graph_text text : List ℕ) (read : Result Found GmlErr) (old new : Option (List ℕ)) → graph_of_text graph_text ≡ read →
    Wrote (OnGraph read (Drawn text)) Done old new → SaysShown graph_text text old new
says_shown law graph_text text (Ok found) old new is wrote =
    let a = was_accepted (DrawVerdict found.graph found.loops text) (show_text found.graph (keys_of found.ids)) wrote.output wrote.comes in
    record {
      found = found;
      graph_is = is;
      is_graph = limited graph_text found is;
      drawing = a.value;
      spelled = (law found.graph found.loops text a.value).0 a.holds;
      written = subst (λ (o : List ℕ). Appends old new o) a.output_is wrote.written;
    }
says_shown law graph_text text (Err e) old new is wrote = absurd (done_is_no_graph e wrote.output (Drawn text) wrote.comes)

-- Done where an answer is shown
pub drawn_done : (law : DrawnWhereSpelled) (told : Option Files) (graph answer : List ℕ) (asked : Request) (end : Status) (old new : Option (List ℕ)) → asked ≡ draw graph answer → end ≡ Done →
    IfSome told (λ files. Ran (ComesTo files asked) end old new) →
    IfSome told (λ files. SaysShown (bytes_of files graph) (bytes_of files answer) old new)
drawn_done law None graph answer asked end old new is done ran = tt
drawn_done law (Some files) graph answer asked end old new is done ran =
    let ran_done = subst (λ (r : Request). Ran (ComesTo files r) Done old new) is (subst (λ s. Ran (ComesTo files asked) s old new) done ran) in
    says_shown law (bytes_of files graph) (bytes_of files answer) (graph_of_text (bytes_of files graph)) old new refl ran_done
