-- What an end says of the files, and of what was written.
use Rattle.std.specs.Prelude.{◌≡◌, ◌⊎◌, ℕ, ◌≤◌, List, [], IfSome, Option, Ok}
use Rattle.std.specs.Io.KnownBytes.{Appends}
use Rattle.std.specs.Map.{keys_of}
use Rattle.xn_io.specs.Causes.{Rose}
use Rattle.xn_io.specs.Input.{Files}
use Rattle.xn_io.specs.Sink.{TakesPart}
use Rattle.xn_model.specs.Drawing.{IsAtMost, IsAtLeast, IsCrossingNumber}
use Rattle.xn_check.specs.Laws.{SpellsDrawing, SpellsFront}
use Rattle.xn_draw.specs.declared.results.Seen.{Seen}
use Rattle.xn_gml.specs.Meaning.{Found, graph_of_text}
use Rattle.xn_graph.specs.Limits.{IsLimitedGraph}
use Rattle.xn_kinds.specs.declared.answers.Answer.{Answer}
use Rattle.xn_kinds.specs.declared.drawings.Drawing.{Drawing}
use Rattle.xn_proof.specs.Spelling.{text_of}
use Rattle.xn_sample.specs.Sample.{sample_of}
use Rattle.xn_show.specs.Text.{show_text}
use Rattle.xn_command.specs.Request.{Request}
use Rattle.xn_app.specs.declared.status.Limit.TheVariants.{Bytes}
use Rattle.xn_app.specs.declared.status.Status.{Status}
use Rattle.xn_app.specs.declared.status.Status.TheVariants.{Done, Undecided, Words, Limit, Read, Write, Memory}
use Rattle.xn_app.specs.Files.{EndsReading}
use Rattle.xn_app.specs.Outcome.{IsAnswerFor, IsUndecided, Outcome, Sampled}
use Rattle.xn_app.specs.Output.{accepted_line, sample_line, seen_line}

-- this holds of what is asked and of the files, where words ask for something and the files are told
abbrev pub Told : Option Request → Option Files → (Request → Files → Type 0) → Type 0
Told asked told P = IfSome asked (λ r. IfSome told (P r))

-- this end has an outcome, whose bytes were written
pub record Wrote (Comes : Outcome → Type 0) (status : Status) (old new : Option (List ℕ)) : Type 0 where
  pub output : List ℕ
  pub comes : Comes (status, output)
  pub written : Appends old new output

-- a part of the bytes of an outcome was written, from their front, and not all
pub record WrotePart (Comes : Outcome → Type 0) (old new : Option (List ℕ)) : Type 0 where
  pub outcome : Outcome
  pub comes : Comes outcome
  pub written : TakesPart old new outcome.1

-- a run that comes to one of these outcomes ended so, and so much was written
abbrev pub Ran : (Outcome → Type 0) → Status → Option (List ℕ) → Option (List ℕ) → Type 0
Ran Comes Write old new = WrotePart Comes old new
Ran Comes Words old new = Unit {0}
Ran Comes Read old new = Unit {0}
Ran Comes Memory old new = Unit {0}
Ran Comes (Limit Bytes) old new = Unit {0}
Ran Comes status old new = Wrote Comes status old new

-- a run without a file that comes to one of these outcomes ended so, and so much was written
abbrev pub RanAlone : (Outcome → Type 0) → Status → Option (List ℕ) → Option (List ℕ) → Type 0
RanAlone Comes Done old new = Wrote Comes Done old new
RanAlone Comes (Undecided lower upper spent) old new = Wrote Comes (Undecided lower upper spent) old new
RanAlone Comes Write old new = WrotePart Comes old new
RanAlone Comes Memory old new = Unit {0}
RanAlone Comes status old new = ⊥

-- a command comes to no answer and ends so: a file wasn't read, or this is what it comes to, and no bytes belong to it
abbrev pub Quits : (Outcome → Type 0) → Status → Type 0
Quits Comes end = EndsReading end ⊎ Comes (end, [])

-- all bytes of an end were written, or a part from their front and the end is a fault of the sink
abbrev pub Finishes : Status → List ℕ → Option (List ℕ) → Option (List ℕ) → ℕ → ℕ → Status → Type 0
Finishes status output old new before after result =
    ((result ≡ status) × Appends old new output) ⊎ ((result ≡ Write) × TakesPart old new output × Rose before after)

-- the text of a graph has this one, its crossing number lies between the two numbers, and they were written
pub record SaysBounds (graph_text : List ℕ) (old new : Option (List ℕ)) : Type 0 where
  pub found : Found
  pub graph_is : graph_of_text graph_text ≡ Ok found
  pub is_graph : IsLimitedGraph found.graph
  pub lower : ℕ
  pub upper : ℕ
  pub least : IsAtLeast found.graph lower
  pub at_most : IsAtMost found.graph upper
  pub written : Appends old new (accepted_line (lower, upper))

-- the text of a graph has this one, the other text is the spelling of an answer for it with a drawing, and what shows the drawing
-- was written
pub record SaysShown (graph_text text : List ℕ) (old new : Option (List ℕ)) : Type 0 where
  pub found : Found
  pub graph_is : graph_of_text graph_text ≡ Ok found
  pub is_graph : IsLimitedGraph found.graph
  pub drawing : Drawing
  pub spelled : SpellsDrawing found.graph found.loops text drawing
  pub written : Appends old new (show_text found.graph (keys_of found.ids) drawing)

-- the text is the spelling of an answer with a drawing, and what is seen of it was written
pub record SaysDrawing (text : List ℕ) (old new : Option (List ℕ)) : Type 0 where
  pub seen : Seen
  pub spelled : SpellsFront text seen
  pub written : Appends old new (seen_line seen)

-- the text of a graph has this one, and an answer for it was written that `check` accepts: a drawing with `upper` crossings, and a
-- proof of `lower`
pub record SaysAnswer (graph_text : List ℕ) (budget : ℕ) (old new : Option (List ℕ)) : Type 0 where
  pub found : Found
  pub graph_is : graph_of_text graph_text ≡ Ok found
  pub is_graph : IsLimitedGraph found.graph
  pub text : List ℕ
  pub answer : Answer
  pub is_answer : IsAnswerFor found.graph found.loops budget text answer
  pub written : Appends old new text

-- both bounds are one number, and it is the crossing number
pub record SaysCrossingNumber (graph_text : List ℕ) (budget : ℕ) (old new : Option (List ℕ)) : Type 0 where
  pub says : SaysAnswer graph_text budget old new
  pub decided : says.answer.lower ≡ says.answer.upper
  pub number : IsCrossingNumber says.found.graph says.answer.upper

-- its bounds are these two, which differ, and the crossing number lies between them: the whole budget is spent, and was below the
-- node limit
pub record SaysUndecided (graph_text : List ℕ) (budget lower upper spent : ℕ) (old new : Option (List ℕ)) : Type 0 where
  pub says : SaysAnswer graph_text budget old new
  pub undecided : IsUndecided says.found.graph budget says.answer lower upper spent
  pub least : IsAtLeast says.found.graph lower
  pub at_most : IsAtMost says.found.graph upper

-- an answer for the sample graph of so many nodes was found that `check` accepts, and its line was written: the numbers of nodes and
-- edges, both bounds, and what was spent of the budget
pub record SaysSample (nodes budget : ℕ) (old new : Option (List ℕ)) : Type 0 where
  pub is_graph : IsLimitedGraph (sample_of nodes)
  pub answer : Answer
  pub is_answer : IsAnswerFor (sample_of nodes) 0 budget (text_of answer) answer
  pub in_budget : answer.spent ≤ budget
  pub written : Appends old new (sample_line (sample_of nodes) (answer.lower, answer.upper) answer.spent)

-- both bounds are one number, and it is the crossing number of the sample graph
pub record SaysSampleNumber (nodes budget : ℕ) (old new : Option (List ℕ)) : Type 0 where
  pub says : SaysSample nodes budget old new
  pub decided : says.answer.lower ≡ says.answer.upper
  pub number : IsCrossingNumber (sample_of nodes) says.answer.upper

-- its bounds are these two, which differ, and its crossing number lies between them: the whole budget is spent, and was below the
-- node limit
pub record SaysSampleUndecided (nodes budget lower upper spent : ℕ) (old new : Option (List ℕ)) : Type 0 where
  pub says : SaysSample nodes budget old new
  pub undecided : IsUndecided (sample_of nodes) budget says.answer lower upper spent
  pub least : IsAtLeast (sample_of nodes) lower
  pub at_most : IsAtMost (sample_of nodes) upper
