-- What the parts of a judge say of a line is what the judge says.
use Rattle.std.proofs.Common.{◌≡◌, ℕ, List, Result, Ok, Err, length, refl, subst, ap}
use Rattle.std.specs.Prelude.{IfOk, MatchResult}
use Rattle.xn_model.specs.Graph.{Graph}
use Rattle.xn_kinds.specs.Row.{RowHolds}
use Rattle.xn_kinds.specs.declared.flaws.FlawKind.{FlawKind}
use Rattle.xn_kinds.specs.declared.trees.Node.{Node}
use Rattle.xn_proof.specs.declared.flaw.AnswerErr.{AnswerErr}
use Rattle.xn_proof.specs.declared.flaw.AnswerErr.TheVariants as errors
use Rattle.xn_proof.specs.declared.item.Item.{Item}
use Rattle.xn_proof.specs.declared.item.Item.TheVariants as item
use Rattle.xn_check.specs.Judging.{Judged, RefusesLine}
use Rattle.xn_check.specs.Meaning.{Breaks, DrawBreaks, RowFails}
use Rattle.xn_proof.specs.RowsSaid.{RowsSaid, row_by_list, rows_said}
use Rattle.xn_check.specs.Said.{Said}
use Rattle.xn_check.specs.Verdict.{check_rules}

module _ (g h : Graph) (loops number : ℕ) (s : Said) (list : List ℕ) (more : RowsSaid) where
  pub extension_judged : (result : Result (Unit {0}) AnswerErr) → h ≡ g → IfOk result (λ u. more ≡ rows_said s.rows (item.Extension list)) →
      MatchResult result (λ u. RowHolds h (row_by_list s.rows list)) (RefusesLine number (RowFails h (length s.rows.whole) (row_by_list s.rows list))) →
      Judged (check_rules g loops) s number (item.Extension list) (record s { rows = more }) result
  extension_judged (Ok u) same said judged =
      (subst (λ (i : Graph). RowHolds i (row_by_list s.rows list)) same judged, ap (λ (r : RowsSaid). record s { rows = r }) said)
  extension_judged (Err errors.Memory) same said judged = tt
  extension_judged (Err (errors.Refused flaw)) same said judged =
      subst (λ (i : Graph). RefusesLine number (RowFails i (length s.rows.whole) (row_by_list s.rows list)) (errors.Refused flaw)) same judged

-- ---- lines up to `drawn`, and those that say nothing

module _ (g h : Graph) (loops number : ℕ) (s : Said) where
  by_refusal : (x : Item) → ((k : FlawKind) → DrawBreaks g loops s.front x k → Breaks g loops s x k) → (e : AnswerErr) → h ≡ g →
      RefusesLine number (DrawBreaks h loops s.front x) e → Judged (check_rules g loops) s number x s (Err e)
  by_refusal x fails errors.Memory same refused = tt
  by_refusal x fails (errors.Refused flaw) same refused =
      let here = subst (λ (i : Graph). RefusesLine number (DrawBreaks i loops s.front x) (errors.Refused flaw)) same refused in
      (fails flaw.kind here.0, here.1)

  pub front_refused : (x : Item) → ((e : ℕ) (l : List ℕ) → x ≡ item.Over e l → ⊥) → ((b : List ℕ) → x ≡ item.Branch b → ⊥) →
      ((p : List ℕ) → x ≡ item.Path p → ⊥) → ((l : List ℕ) → x ≡ item.Extension l → ⊥) → ((n : Node) → x ≡ item.Step n → ⊥) →
      (x ≡ item.End → ⊥) → (e : AnswerErr) → h ≡ g → RefusesLine number (DrawBreaks h loops s.front x) e → Judged (check_rules g loops) s number x s (Err e)
  front_refused (item.Over e l) over branch path extension step end d same r = absurd (over e l refl)
  front_refused (item.Branch b) over branch path extension step end d same r = absurd (branch b refl)
  front_refused (item.Path p) over branch path extension step end d same r = absurd (path p refl)
  front_refused (item.Extension l) over branch path extension step end d same r = absurd (extension l refl)
  front_refused (item.Step n) over branch path extension step end d same r = absurd (step n refl)
  front_refused item.End over branch path extension step end d same r = absurd (end refl)
  front_refused (item.Header n) over branch path extension step end d same r = by_refusal (item.Header n) (λ k w. w) d same r
  front_refused (item.Graph n m) over branch path extension step end d same r = by_refusal (item.Graph n m) (λ k w. w) d same r
  front_refused (item.Loops l) over branch path extension step end d same r = by_refusal (item.Loops l) (λ k w. w) d same r
  front_refused (item.Edge u v) over branch path extension step end d same r = by_refusal (item.Edge u v) (λ k w. w) d same r
  front_refused (item.Bounds a b) over branch path extension step end d same r = by_refusal (item.Bounds a b) (λ k w. w) d same r
  front_refused (item.Effort a b) over branch path extension step end d same r = by_refusal (item.Effort a b) (λ k w. w) d same r
  front_refused (item.Along l) over branch path extension step end d same r = by_refusal (item.Along l) (λ k w. w) d same r
  front_refused (item.Turn a b) over branch path extension step end d same r = by_refusal (item.Turn a b) (λ k w. w) d same r
  front_refused item.Drawn over branch path extension step end d same r = by_refusal item.Drawn (λ k w. w) d same r
  front_refused (item.Rows n) over branch path extension step end d same r = by_refusal (item.Rows n) (λ k w. w) d same r
  front_refused (item.Row n) over branch path extension step end d same r = by_refusal (item.Row n) (λ k w. w) d same r
  front_refused item.Tree over branch path extension step end d same r = by_refusal item.Tree (λ k w. w) d same r
