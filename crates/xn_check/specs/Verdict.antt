-- What is said of a text as an answer: for a graph, with so many loops left aside, or for whatever graph it says.
use Rattle.std.specs.Prelude.{ℕ, List, Result}
use Rattle.xn_model.specs.Graph.{Graph}
use Rattle.xn_draw.specs.declared.results.Seen.{Seen}
use Rattle.xn_kinds.specs.declared.drawings.Drawing.{Drawing}
use Rattle.xn_kinds.specs.declared.flaws.Flaw.{Flaw}
use Rattle.xn_check.specs.Judging.{JudgesTo, Rules}
use Rattle.xn_check.specs.Meaning.{Agrees, Breaks, DrawAgrees, DrawBreaks, FrontAgrees, FrontBreaks}
use Rattle.xn_check.specs.FrontSaid.{FrontSaid, FrontSeen, drawing_said, front_said, front_seen, no_front, no_seen}
use Rattle.xn_check.specs.Said.{Said, nothing_said, said}

-- each line is judged by its whole rule, for the bounds, lower and upper
abbrev pub check_rules : Graph → ℕ → Rules Said (ℕ × ℕ)
check_rules g loops = record {
  start = nothing_said;
  more = said;
  agrees = Agrees g loops;
  fails = Breaks g loops;
  answer = λ s. (s.front.lower, s.front.upper);
}

-- the lines are judged by no graph but the one that they say, and those after `drawn` keep their form alone, for what is seen of
-- the drawing
abbrev pub front_rules : Rules FrontSeen Seen
front_rules = record {
  start = record { front = no_front; seen = no_seen };
  more = front_seen;
  agrees = λ s line. FrontAgrees s.front line;
  fails = λ s line kind. FrontBreaks s.front line kind;
  answer = λ s. s.seen;
}

-- the lines after `drawn` keep their form alone, for the drawing
abbrev pub draw_rules : Graph → ℕ → Rules FrontSaid Drawing
draw_rules g loops = record {
  start = no_front;
  more = front_said;
  agrees = DrawAgrees g loops;
  fails = DrawBreaks g loops;
  answer = drawing_said;
}

-- the bounds of an answer that is accepted, or the first flaw
abbrev pub Verdict : Graph → ℕ → List ℕ → Result (ℕ × ℕ) Flaw → Type 0
Verdict g loops text outcome = JudgesTo (check_rules g loops) text outcome

-- the drawing of an answer of which no more is judged, or the first flaw
abbrev pub DrawVerdict : Graph → ℕ → List ℕ → Result Drawing Flaw → Type 0
DrawVerdict g loops text outcome = JudgesTo (draw_rules g loops) text outcome

-- what is seen of the drawing of an answer of which no more is judged, whatever its graph, or the first flaw
abbrev pub FrontVerdict : List ℕ → Result Seen Flaw → Type 0
FrontVerdict text outcome = JudgesTo front_rules text outcome
