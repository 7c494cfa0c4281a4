-- What a command comes to: its end, and the bytes that belong to it.
use Rattle.std.specs.Prelude.{◌≡◌, ◌⊎◌, ℕ, ◌<◌, ◌≤◌, List, [], length, Result, Ok, Err}
use Rattle.std.specs.Map.{keys_of}
use Rattle.xn_check.specs.Laws.{Spells}
use Rattle.xn_check.specs.Verdict.{DrawVerdict, FrontVerdict, Verdict}
use Rattle.xn_gml.specs.Meaning.{Found, graph_of_text}
use Rattle.xn_gml.specs.declared.errors.GmlErr.{GmlErr}
use Rattle.xn_gml.specs.declared.errors.GmlErr.TheVariants as gml
use Rattle.xn_io.specs.Input.{Files, bytes_of}
use Rattle.xn_kinds.specs.declared.answers.Answer.{Answer}
use Rattle.xn_kinds.specs.declared.flaws.Flaw.{Flaw}
use Rattle.xn_model.specs.Graph.{Graph}
use Rattle.xn_model.specs.Limit.{IsBelowLimit}
use Rattle.xn_proof.specs.Refusal.{flaw_line}
use Rattle.xn_proof.specs.Spelling.{text_of}
use Rattle.xn_graph.specs.Limits.{IsLimitedGraph}
use Rattle.xn_sample.specs.Sample.{sample_of}
use Rattle.xn_show.specs.Text.{show_text}
use Rattle.xn_command.specs.Request.{Request, check, draw, examine, sample, solve}
use Rattle.xn_app.specs.Output.{accepted_line, sample_line, seen_line}
use Rattle.xn_app.specs.Status.{IsSearchEnd}
use Rattle.xn_app.specs.declared.status.Limit.TheVariants.{Edges, Nodes}
use Rattle.xn_app.specs.declared.status.Status.{Status}
use Rattle.xn_app.specs.declared.status.Status.TheVariants.{Done, Graph as NoGraph, Limit, Memory, Refused, Undecided}

-- an end, and the bytes that belong to it
abbrev pub Outcome : Type 0
Outcome = Status × List ℕ

-- what is accepted is told by a text, and a flaw by its line
abbrev pub outcome_of : {V : Type 0} → (V → List ℕ) → Result V Flaw → Outcome
outcome_of text (Ok v) = (Done, text v)
outcome_of text (Err flaw) = (Refused flaw, flaw_line flaw)

-- an answer has a verdict, which leads to this
pub record IsByVerdict {V : Type 0} (HasVerdict : Result V Flaw → Type 0) (text : V → List ℕ) (outcome : Outcome) : Type 0 where
  pub verdict : Result V Flaw
  pub holds : HasVerdict verdict
  pub outcome_is : outcome ≡ outcome_of text verdict

-- the end where a text has no graph
abbrev pub refused_graph : GmlErr → Status
refused_graph gml.TooManyNodes = Limit Nodes
refused_graph gml.TooManyEdges = Limit Edges
refused_graph gml.Memory = Memory
refused_graph e = NoGraph e

-- the rest where the text has a graph; else nothing is written
abbrev pub OnGraph : Result Found GmlErr → (Found → Outcome → Type 0) → Outcome → Type 0
OnGraph (Ok found) Rest outcome = Rest found outcome
OnGraph (Err e) Rest outcome = outcome ≡ (refused_graph e, [])

-- what the text of an answer comes to by itself, where a graph was read, and where it is to be shown
abbrev pub Examined : List ℕ → Outcome → Type 0
Examined text outcome = IsByVerdict (FrontVerdict text) seen_line outcome

abbrev pub Checked : List ℕ → Found → Outcome → Type 0
Checked text found outcome = IsByVerdict (Verdict found.graph found.loops text) accepted_line outcome

abbrev pub Drawn : List ℕ → Found → Outcome → Type 0
Drawn text found outcome = IsByVerdict (DrawVerdict found.graph found.loops text) (show_text found.graph (keys_of found.ids)) outcome

-- the text is the one spelling of the answer, which has the graph, its loops and the budget; the verdict on it is that it is accepted
-- with its bounds, and where its proof shows anything, its tree is no larger than what was spent
pub record IsAnswerFor (g : Graph) (loops budget : ℕ) (text : List ℕ) (a : Answer) : Type 0 where
  pub spelled : Spells g loops text a
  pub budget_is : a.budget ≡ budget
  pub accepted : Verdict g loops text (Ok (a.lower, a.upper))
  pub few_nodes : 1 ≤ a.lower → length a.tree ≤ a.spent

-- the numbers are those of an answer whose bounds differ: the whole budget is spent, and was below the node limit
pub record IsUndecided (g : Graph) (budget : ℕ) (a : Answer) (lower upper spent : ℕ) : Type 0 where
  pub lower_is : lower ≡ a.lower
  pub upper_is : upper ≡ a.upper
  pub spent_is : spent ≡ a.spent
  pub apart : lower < upper
  pub whole : spent ≡ budget
  pub below : IsBelowLimit g budget

-- the end to which an answer that was found leads: done exactly where its bounds are one number
abbrev pub EndsSearch : Graph → ℕ → Answer → Status → Type 0
EndsSearch g budget a Done = a.lower ≡ a.upper
EndsSearch g budget a (Undecided lower upper spent) = IsUndecided g budget a lower upper spent
EndsSearch g budget a end = ⊥

-- what the search of a graph within a budget comes to: the text of an answer for it
pub record Searched (budget : ℕ) (found : Found) (outcome : Outcome) : Type 0 where
  pub answer : Answer
  pub is_answer : IsAnswerFor found.graph found.loops budget outcome.1 answer
  pub ends : EndsSearch found.graph budget answer outcome.0

-- what the search of a sample graph within a budget comes to: the line for an answer for it; the graph is one within the limits
pub record Sampled (budget nodes : ℕ) (outcome : Outcome) : Type 0 where
  pub is_graph : IsLimitedGraph (sample_of nodes)
  pub answer : Answer
  pub is_answer : IsAnswerFor (sample_of nodes) 0 budget (text_of answer) answer
  pub ends : EndsSearch (sample_of nodes) budget answer outcome.0
  pub line_is : outcome.1 ≡ sample_line (sample_of nodes) (answer.lower, answer.upper) answer.spent

-- what is asked comes to this, with these files
abbrev pub ComesTo : Files → Request → Outcome → Type 0
ComesTo files (solve graph budget) outcome = OnGraph (graph_of_text (bytes_of files graph)) (Searched budget) outcome
ComesTo files (sample nodes budget) outcome = Sampled budget nodes outcome
ComesTo files (examine answer) outcome = Examined (bytes_of files answer) outcome
ComesTo files (check graph answer) outcome = OnGraph (graph_of_text (bytes_of files graph)) (Checked (bytes_of files answer)) outcome
ComesTo files (draw graph answer) outcome = OnGraph (graph_of_text (bytes_of files graph)) (Drawn (bytes_of files answer)) outcome

-- what is asked comes to this whatever the files are, where it has none
abbrev pub ComesAlone : Request → Outcome → Type 0
ComesAlone (sample nodes budget) outcome = Sampled budget nodes outcome
ComesAlone asked outcome = Unit {0}

-- two ends to which the same files lead are one end, but that a search may be done or not
abbrev pub AreOneEnd : Request → Status → Status → Type 0
AreOneEnd (solve graph budget) x y = (IsSearchEnd x × IsSearchEnd y) ⊎ (x ≡ y)
AreOneEnd (sample nodes budget) x y = IsSearchEnd x × IsSearchEnd y
AreOneEnd (examine answer) x y = x ≡ y
AreOneEnd (check graph answer) x y = x ≡ y
AreOneEnd (draw graph answer) x y = x ≡ y
