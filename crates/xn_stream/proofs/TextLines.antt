-- The lines of a text that begins with whole lines.
use Rattle.std.proofs.Common.{◌≡◌, ℕ, ◌+◌, ◌<◌, Bool, true, false, inl, inr, ltb, List, [], ◌∷◌, ◌++◌, length, map, refl, sym, subst, ap, ◌∙◌, append_assoc, arith, length-append}
use Rattle.std.proofs.Math.Seq.{get_or-append_seam}
use Rattle.std.proofs.lemmas.Bool.{cases_Bool}
use Rattle.std.proofs.lemmas.List.Splits.{slice_split_none}
use Rattle.std.specs.Prelude.{All}
use Rattle.std.specs.List.{after_first, before_first, position_or_len, slice_split}
use Rattle.xn_text.specs.Pieces.{Lacks, is_line_end, lines_of, numbered_lines, unended_line}
use Rattle.xn_text.proofs.Cuts.{ended_is_taken, fails_test}
use Rattle.xn_proof.specs.Forms.{Line, text_lines}
use Rattle.xn_proof.proofs.LineByLine.{ended, unended}
use Rattle.xn_stream.specs.Pieces.{whole_lines}

-- lines without their numbers
abbrev plain_lines : List (ℕ × List ℕ × Bool) → List Line
plain_lines lines = map (λ l. (l.1, l.2)) lines

same_last : (m n : ℕ) (piece : List ℕ) → plain_lines (unended_line m piece) ≡ plain_lines (unended_line n piece)
same_last m n [] = refl
same_last m n (b ∷ piece) = refl

-- they don't depend on the number of the first
same_lines : (m n : ℕ) (pieces : List (List ℕ)) → plain_lines (numbered_lines m pieces) ≡ plain_lines (numbered_lines n pieces)
same_lines m n [] = refl
same_lines m n (piece ∷ []) = same_last m n piece
same_lines m n (piece ∷ second ∷ others) = ap (λ (ls : List Line). (piece, true) ∷ ls) (same_lines (m + 1) (n + 1) (second ∷ others))

-- a text whose first line is ended
pub ended_first : (line rest : List ℕ) → Lacks 10 line → text_lines (line ++ 10 ∷ rest) ≡ (line, true) ∷ text_lines rest
ended_first line rest lacks =
    let t = ended_is_taken 1 line rest lacks in
    ap plain_lines (ended 1 (line ++ 10 ∷ rest) (sym t.ended_is))
    ∙ ap (λ (l : List ℕ). (l, true) ∷ plain_lines (lines_of (2, after_first is_line_end (line ++ 10 ∷ rest)))) (sym t.bytes_are)
    ∙ ap (λ (r : List ℕ). (line, true) ∷ plain_lines (lines_of (2, r))) (sym t.rest_is)
    ∙ ap (λ (ls : List Line). (line, true) ∷ ls) (same_lines 2 1 (slice_split is_line_end rest))

-- a line that isn't ended
pub last_only : (b : ℕ) (line : List ℕ) → Lacks 10 (b ∷ line) → text_lines (b ∷ line) ≡ (b ∷ line, false) ∷ []
last_only b line lacks = ap (λ (ps : List (List ℕ)). plain_lines (numbered_lines 1 ps)) (slice_split_none is_line_end (b ∷ line) (fails_test 10 (b ∷ line) lacks))

-- a text that isn't empty has a first line
pub some_first : (b : ℕ) (text : List ℕ) → (line : Line) × (lines : List Line) × (text_lines (b ∷ text) ≡ line ∷ lines)
some_first b text = elim (cases_Bool (ltb (position_or_len is_line_end (b ∷ text)) (length (b ∷ text)))) [
  | inl is ↦ ((before_first is_line_end (b ∷ text), true), plain_lines (lines_of (2, after_first is_line_end (b ∷ text))), ap plain_lines (ended 1 (b ∷ text) is))
  | inr not ↦ ((b ∷ text, false), [], ap plain_lines (unended 1 (b ∷ text) not))
]

-- ---- lines that are ended

-- the first line of a text and what is behind it are told by the text
pub one_first : (line other rest more : List ℕ) → Lacks 10 line → Lacks 10 other → line ++ 10 ∷ rest ≡ other ++ 10 ∷ more → (line ≡ other) × (rest ≡ more)
one_first line other rest more lacks lack same =
    let t = ended_is_taken 1 line rest lacks in
    let u = ended_is_taken 1 other more lack in
    (t.bytes_are ∙ ap (before_first is_line_end) same ∙ sym u.bytes_are, t.rest_is ∙ ap (after_first is_line_end) same ∙ sym u.rest_is)

-- no ended line begins bytes that lack the byte 10
pub none_ended : (bytes line rest : List ℕ) → Lacks 10 bytes → bytes ≡ line ++ 10 ∷ rest → ⊥
none_ended bytes line rest lacks is =
    let long : length (line ++ 10 ∷ rest) ≡ length line + length (10 ∷ rest) = length-append line (10 ∷ rest) in
    let all = subst (Lacks 10) is lacks in
    all (length line) 0 (omega (arith, long)) (get_or-append_seam line 10 rest 0)

-- one line more
pub whole_more : (lines : List (List ℕ)) (line : List ℕ) → whole_lines (lines ++ line ∷ []) ≡ whole_lines lines ++ (line ++ 10 ∷ [])
whole_more [] line = refl
whole_more (l ∷ lines) line =
    ap (λ (bytes : List ℕ). l ++ 10 ∷ bytes) (whole_more lines line) ∙ sym (append_assoc l (10 ∷ whole_lines lines) (line ++ 10 ∷ []))
