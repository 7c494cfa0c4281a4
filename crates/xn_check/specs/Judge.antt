-- What a judge of answers keeps.
use Rattle.std.specs.Prelude.{◌≡◌, ℕ, All}
use Rattle.xn_model.specs.Graph.{Graph}
use Rattle.xn_kinds.specs.Row.{RowHolds}
use Rattle.xn_proof.specs.Forms.{Reached}
use Rattle.xn_check.specs.Fitting.{RowsFit}
use Rattle.xn_check.specs.FrontFits.{FrontStands}
use Rattle.xn_check.specs.FrontSaid.{FrontSaid}
use Rattle.xn_check.specs.Judging.{Rules}
use Rattle.xn_check.specs.Parts.{TreeKept, tree_of}
use Rattle.xn_proof.specs.RowsSaid.{RowsSaid}
use Rattle.xn_check.specs.Said.{Said}
use Rattle.xn_check.specs.Verdict.{check_rules}

-- the state that lines so far led to, and what they said; the walk of the tree has the graph
pub record Kept : Type 0 where
  pub at : Reached
  pub loops : ℕ
  pub front : FrontSaid
  pub rows : RowsSaid
  pub tree : TreeKept

abbrev pub kept_of : Reached → ℕ → FrontSaid → RowsSaid → TreeKept → Kept
kept_of at loops front rows tree = record { at = at; loops = loops; front = front; rows = rows; tree = tree }

abbrev pub graph_kept : Kept → Graph
graph_kept k = k.tree.walk.graph

-- the rules by which it judges, and what was said, of which later lines are judged
abbrev pub rules_of : Kept → Rules Said (ℕ × ℕ)
rules_of k = check_rules (graph_kept k) k.loops

abbrev pub said_of : Kept → Said
said_of k = record { front = k.front; rows = k.rows; tree = tree_of k.tree }

-- what is known before the next line, where each so far meant what it must
pub record IsReady (k : Kept) : Type 0 where
  pub front : FrontStands k.at.1 k.front
  pub rows : RowsFit k.at.1 k.rows
  pub hold : All (RowHolds (graph_kept k)) k.rows.whole

-- both judge by the same rules
pub record HaveOneTask (j k : Kept) : Type 0 where
  pub graph : graph_kept j ≡ graph_kept k
  pub loops : j.loops ≡ k.loops
