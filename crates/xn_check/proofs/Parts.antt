-- The rows of an answer, line by line.
use Rattle.std.proofs.Common.{◌≡◌, ℕ, ◌+◌, ◌==◌, true, List, [], ◌∷◌, ◌++◌, length, Result, MatchResult, IfSome, Option, Some, refl, subst, sym, ap, ◌∙◌}
use Rattle.xn_model.specs.Graph.{Graph}
use Rattle.xn_kinds.specs.Row.{RowHolds}
use Rattle.xn_kinds.specs.declared.rows.Evidence.{Evidence}
use Rattle.xn_kinds.specs.declared.rows.Row.{Row}
use Rattle.xn_proof.specs.declared.flaw.AnswerErr.{AnswerErr}
use Rattle.xn_check.specs.Judging.{RefusesLine}
use Rattle.xn_check.specs.Meaning.{PathFails, RowFails}
use Rattle.xn_proof.specs.RowsSaid.{RowsSaid, evidence_of, paths_for, row_by_path, row_of}

-- what is said of a row is said of the same row
pub same_refusal : (number : ℕ) (e : AnswerErr) (g : Graph) (i j : ℕ) (x y : Row) → i ≡ j → x ≡ y → RefusesLine number (RowFails g i x) e → RefusesLine number (RowFails g j y) e
same_refusal number e g i j x y is xs refused =
    subst (λ a. RefusesLine number (RowFails g a y) e) is (subst (λ a. RefusesLine number (RowFails g i a) e) xs refused)

-- what is judged of a row is judged of the path that makes it whole
abbrev pub Judged : Graph → ℕ → Row → ℕ → Result (Unit {0}) AnswerErr → Type 0
Judged g i row number result = MatchResult result (λ _. RowHolds g row) (RefusesLine number (RowFails g i row))

abbrev pub JudgedIf : Graph → ℕ → Option Row → ℕ → Result (Unit {0}) AnswerErr → Type 0
JudgedIf g i row number result = MatchResult result (λ _. IfSome row (RowHolds g)) (RefusesLine number (PathFails g i row))

judged_if : (g : Graph) (i : ℕ) (row : Row) (number : ℕ) (result : Result (Unit {0}) AnswerErr) → Judged g i row number result → JudgedIf g i (Some row) number result
judged_if g i row number result judged = judged

pub last_path : (s t u : RowsSaid) (path : List ℕ) (e : Evidence) (g : Graph) (number : ℕ) (result : Result (Unit {0}) AnswerErr) →
    (length s.paths + 1 == paths_for s.branch) ≡ true → t ≡ record s { paths = s.paths ++ path ∷ [] } → e ≡ evidence_of t.branch t.paths →
    u ≡ record t { paths = [] } → Judged g (length u.whole) (row_of u e) number result → JudgedIf g (length s.whole) (row_by_path s path) number result
last_path s t u path e g number result last ts es us judged =
    let us_s : u ≡ record s { paths = [] } = us ∙ ap (λ (t : RowsSaid). record t { paths = [] }) ts in
    let es_s : e ≡ evidence_of s.branch (s.paths ++ path ∷ []) = es ∙ ap (λ (t : RowsSaid). evidence_of t.branch t.paths) ts in
    let two : Judged g (length s.whole) (row_of s e) number result = subst (λ (u : RowsSaid). Judged g (length u.whole) (row_of u e) number result) us_s judged in
    let row = row_of s (evidence_of s.branch (s.paths ++ path ∷ [])) in
    let three : Judged g (length s.whole) row number result = subst (λ e. Judged g (length s.whole) (row_of s e) number result) es_s two in
    let is : row_by_path s path ≡ Some row = rw last refl in
    subst (λ o. JudgedIf g (length s.whole) o number result) (sym is) (judged_if g (length s.whole) row number result three)
