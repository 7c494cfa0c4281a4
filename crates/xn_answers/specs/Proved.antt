-- Answers that prove what they say.
use Rattle.std.specs.Prelude.{◌≡◌, ◌<◌, ◌≤◌, ◌^◌, Ok, length}
use Rattle.xn_model.specs.Drawing.{IsListedDrawing, order_of}
use Rattle.xn_model.specs.Orders.{crossing_count}
use Rattle.xn_graph.specs.Limits.{IsLimitedGraph}
use Rattle.xn_kinds.specs.Tree.{Accepts}
use Rattle.xn_kinds.specs.declared.answers.Answer.{Answer}
use Rattle.xn_proof.specs.Spelling.{text_of}
use Rattle.xn_proof.specs.WellFormed.{WellFormed}
use Rattle.xn_check.specs.Verdict.{Verdict}

-- the answer has a drawing of its graph with `upper` crossings, and rows and a tree that prove `lower`
pub record IsProved (a : Answer) : Type 0 where
  pub drawing : IsListedDrawing a.graph a.drawing.orders a.drawing.next
  pub crossings : a.upper ≡ crossing_count a.graph (order_of a.graph a.drawing.orders)
  pub accepted : Accepts a.graph a.lower a.rows a.tree

-- its graph is within the limits, it has at most 2^20 rows, and no more was spent than a budget of at most 200,000
pub record IsLimitedAnswer (a : Answer) : Type 0 where
  pub graph : IsLimitedGraph a.graph
  pub loops : a.loops < 2 ^ 64
  pub few_rows : length a.rows ≤ 1048576
  pub in_budget : a.spent ≤ a.budget
  pub budget : a.budget ≤ 200000

-- all other numbers of such an answer are in their ranges
abbrev pub ProvedAnswersAreWellFormed : Type 0
ProvedAnswersAreWellFormed = (a : Answer) → IsLimitedAnswer a → IsProved a → WellFormed a

-- its spelling is accepted with its bounds
abbrev pub ProvedAnswersAreAccepted : Type 0
ProvedAnswersAreAccepted =
    (a : Answer) → WellFormed a → IsProved a → Verdict a.graph a.loops (text_of a) (Ok (a.lower, a.upper))
