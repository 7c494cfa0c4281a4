-- A text is judged line by line.
use Rattle.std.proofs.Common.{◌≡◌, ℕ, Bool, List, [], ◌∷◌, ◌++◌, All, Option, Some, None, IfSome, IfOk, Result, Ok, Err, sym, subst, ap, ◌∙◌}
use Rattle.std.proofs.lemmas.List.Elements.{All-push}
use Rattle.xn_model.specs.Graph.{Graph}
use Rattle.xn_kinds.specs.Row.{RowHolds}
use Rattle.xn_kinds.specs.declared.rows.Row.{Row}
use Rattle.xn_text.specs.Pieces.{lines_of}
use Rattle.xn_proof.specs.Forms.{Line, Reached, next_at}
use Rattle.xn_proof.specs.declared.flaw.AnswerErr.{AnswerErr}
use Rattle.xn_proof.specs.declared.item.Item.{Item}
use Rattle.xn_proof.specs.declared.item.Item.TheVariants as item
use Rattle.xn_check.specs.Fitting.{RowsFit}
use Rattle.xn_check.specs.FrontFits.{FrontFits, FrontStands}
use Rattle.xn_check.specs.Gives.{RefusesText}
use Rattle.xn_check.specs.Judge.{HaveOneTask, IsReady, Kept, graph_kept, rules_of, said_of}
use Rattle.xn_check.specs.Judging.{Judged, Took}
use Rattle.xn_check.specs.Meaning.{Agrees}
use Rattle.xn_check.specs.Parts.{MayCome}
use Rattle.xn_proof.specs.RowsSaid.{RowsSaid, row_by_list, row_by_path, rows_said, with_row}
use Rattle.xn_check.specs.Said.{Said}
use Rattle.xn_check.specs.Verdict.{check_rules}
use Rattle.xn_check.specs.declared.verdicts.Accepted.{Accepted}
use Rattle.xn_check.proofs.Fitting.{forms_fit_rows}
use Rattle.xn_check.proofs.Folds.{Leads, stops, took}
use Rattle.xn_check.proofs.FrontPlaces.{line_ready}

-- ---- rows that hold

hold_with : (g : Graph) (o : Option Row) (s : RowsSaid) → IfSome o (RowHolds g) → All (RowHolds g) s.whole → All (RowHolds g) (with_row o s).whole
hold_with g None s holds all = all
hold_with g (Some row) s holds all = All-push (RowHolds g) s.whole row all holds

hold_on : (g : Graph) (loops : ℕ) (s : Said) (x : Item) → Agrees g loops s x → All (RowHolds g) s.rows.whole → All (RowHolds g) (rows_said s.rows x).whole
hold_on g loops s (item.Path p) a all = hold_with g (row_by_path s.rows p) (record s.rows { paths = s.rows.paths ++ p ∷ [] }) a all
hold_on g loops s (item.Extension l) a all = hold_with g (Some (row_by_list s.rows l)) s.rows a all
hold_on g loops s (item.Header n) a all = all
hold_on g loops s (item.Graph n m) a all = all
hold_on g loops s (item.Loops l) a all = all
hold_on g loops s (item.Edge u v) a all = all
hold_on g loops s (item.Bounds l u) a all = all
hold_on g loops s (item.Effort n m) a all = all
hold_on g loops s (item.Along l) a all = all
hold_on g loops s (item.Turn n m) a all = all
hold_on g loops s item.Drawn a all = all
hold_on g loops s (item.Rows n) a all = all
hold_on g loops s (item.Row n) a all = all
hold_on g loops s (item.Over e l) a all = all
hold_on g loops s (item.Branch b) a all = all
hold_on g loops s item.Tree a all = all
hold_on g loops s (item.Step n) a all = all
hold_on g loops s item.End a all = all

-- ---- one line

module _ (old new : Kept) (line : Line) (x : Item) (later : Reached) (is : next_at old.at line ≡ Ok (x, later)) (ready : IsReady old) where
  pub front_fits : FrontFits old.front x
  front_fits = (line_ready old.front old.at line (x, later) is ready.front).0

  pub rows_fit : MayCome old.rows x
  rows_fit = (forms_fit_rows.next old.at line old.rows x later ready.rows is).0

  -- the judge is ready for the next one
  pub ready_on : (r : Result (Unit {0}) AnswerErr) → new.at ≡ later → HaveOneTask new old → Judged (rules_of old) (said_of old) old.at.0 x (said_of new) r →
      IfOk r (λ u. IsReady new)
  ready_on (Err e) at task judged = tt
  ready_on (Ok u) at task judged =
      let front = ap (λ (s : Said). s.front) judged.1 in
      let rows = ap (λ (s : Said). s.rows) judged.1 in
      let stands = (line_ready old.front old.at line (x, later) is ready.front).1 in
      let fits = (forms_fit_rows.next old.at line old.rows x later ready.rows is).1 in
      let hold = hold_on (graph_kept old) old.loops (said_of old) x judged.0 ready.hold in
      let moved = subst (λ (s : RowsSaid). All (RowHolds (graph_kept old)) s.whole) (sym rows) hold in
      record {
        front = subst (λ (l : Reached). FrontStands l.1 new.front) (sym at) (subst (FrontStands later.1) (sym front) stands);
        rows = subst (λ (l : Reached). RowsFit l.1 new.rows) (sym at) (subst (RowsFit later.1) (sym rows) fits);
        hold = subst (λ (g : Graph). All (RowHolds g) new.rows.whole) (sym task.graph) moved;
      }

-- ---- all lines

-- so far each line means what it must
pub record Checked (g : Graph) (loops : ℕ) (text : List ℕ) (kept : Kept) (left : ℕ × List ℕ) : Type 0 where
  pub same_graph : graph_kept kept ≡ g
  pub same_loops : kept.loops ≡ loops
  pub ready : IsReady kept
  pub leads : Leads (check_rules g loops) text kept.at (said_of kept) left

module _ (g : Graph) (loops : ℕ) (text : List ℕ) (kept : Kept) (left : ℕ × List ℕ) (checked : Checked g loops text kept left) where
  by_rules : (line : Line) (more : Kept) (r : Result (Unit {0}) AnswerErr) → Took (rules_of kept) kept.at (said_of kept) line more.at (said_of more) r →
      Took (check_rules g loops) kept.at (said_of kept) line more.at (said_of more) r
  by_rules line more r t =
      subst (λ (l : ℕ). Took (check_rules g l) kept.at (said_of kept) line more.at (said_of more) r) checked.same_loops
      (subst (λ (h : Graph). Took (check_rules h kept.loops) kept.at (said_of kept) line more.at (said_of more) r) checked.same_graph t)

  module _ (after : ℕ × List ℕ) (line : ℕ × List ℕ × Bool) (more : Kept) (taken : lines_of left ≡ line ∷ lines_of after) where
    -- one line more
    pub line_on : Took (rules_of kept) kept.at (said_of kept) (line.1, line.2) more.at (said_of more) (Ok tt) → HaveOneTask more kept → IsReady more →
        Checked g loops text more after
    line_on t task ready = record {
      same_graph = task.graph ∙ checked.same_graph;
      same_loops = task.loops ∙ checked.same_loops;
      ready = ready;
      leads = took (check_rules g loops) text kept.at more.at (said_of kept) (said_of more) left after line taken
          (by_rules (line.1, line.2) more (Ok tt) t) checked.leads;
    }

    -- a line that is refused
    pub line_stops : (e : AnswerErr) → Took (rules_of kept) kept.at (said_of kept) (line.1, line.2) more.at (said_of more) (Err e) →
        RefusesText (check_rules g loops) text e
    line_stops e t =
        stops (check_rules g loops) text e kept.at more.at (said_of kept) (said_of more) left after line taken (by_rules (line.1, line.2) more (Err e) t) checked.leads
