-- Reading the nodes of a tree up to the line `end`.
use Rattle.std.proofs.Common.{◌≡◌, ℕ, zero, suc, ◌+◌, ◌≤◌, ◌<◌, ltb, List, [], ◌∷◌, ◌++◌, Some, None, Result, Ok, Err, length, drop, refl, sym, ap, ◌∙◌, append_assoc, arith, length-drop}
use Rattle.std.proofs.lemmas.Bool.{ltb-true}
use Rattle.std.proofs.lemmas.List.{append-nil}
use Rattle.std.specs.List.{before_first, after_first, position_or_len}
use Rattle.xn_kinds.specs.declared.flaws.Flaw.{Flaw}
use Rattle.xn_kinds.specs.declared.trees.Node.{Node}
use Rattle.xn_text.specs.Pieces.{is_line_end, words_of}
use Rattle.xn_proof.specs.declared.flaw.AnswerErr.{AnswerErr}
use Rattle.xn_proof.specs.declared.flaw.AnswerErr.TheVariants as errors
use Rattle.xn_proof.specs.Proofs.{node_of, nodes_at}
use Rattle.xn_proof.specs.Reading.{◌>>=◌, Fails, Left, line_at, syntax}
use Rattle.xn_proof.proofs.Loop.{with_items}
use Rattle.xn_proof.proofs.Steps.{guard, ok, ok_is}

-- a line that is taken leaves less
pub line_shortens : (s : Left) (line : ℕ × List ℕ) (after : Left) → line_at s ≡ Ok (line, after) → length after.1 < length s.1
line_shortens s line after e =
    let at = position_or_len is_line_end s.1 in
    let taken : (ℕ × List ℕ) × Left = ((s.0, before_first is_line_end s.1), (s.0 + 1, after_first is_line_end s.1)) in
    let g = guard (ltb at (length s.1)) (syntax s.0) (ok taken) (line, after) e in
    let low : at < length s.1 = ltb-true at (length s.1) g.0 in
    let same : drop (at + 1) s.1 ≡ after.1 = ap (λ t. t.1.1) (ok_is taken (line, after) g.1) in
    let less = length-drop (at + 1) s.1 in
    omega (arith, low, less, ap length same)

-- no line is left in no bytes
pub no_line : (s : Left) → length s.1 ≤ 0 → line_at s ≡ Err (syntax s.0)
no_line (i, []) none = refl
no_line (i, x ∷ xs) none = absurd (omega arith)

regroup : (front : List Node) (x : Node) (read : Result (List Node × Left) Flaw) → with_items front (read >>= λ r. Ok (x ∷ r.0, r.1)) ≡ with_items (front ++ x ∷ []) read
regroup front x (Ok r) = ap (λ xs. Ok (xs, r.1)) (sym (append_assoc front (x ∷ []) r.0))
regroup front x (Err f) = refl

-- the nodes so far and those of the lines that are left, of which there are at most `most`, are all of them
pub record Goes (m rows : ℕ) (front : List Node) (s : Left) (total : Result (List Node × Left) Flaw) : Type 0 where
  pub most : ℕ
  pub enough : length s.1 ≤ most
  pub read : with_items front (nodes_at m rows most s) ≡ total

pub nodes_on : (m rows most : ℕ) (front : List Node) (s : Left) (line : ℕ × List ℕ) (after : Left) (node : Node) (total : Result (List Node × Left) Flaw) → length s.1 ≤ most →
    line_at s ≡ Ok (line, after) → node_of m rows line.0 (words_of line.1) ≡ Ok (Some node) → with_items front (nodes_at m rows most s) ≡ total → Goes m rows (front ++ node ∷ []) after total
unfolding nodes_at
nodes_on m rows zero front s line after node total enough taken is so_far = let less = line_shortens s line after taken in absurd (omega (arith, less, enough))
nodes_on m rows (suc k) front s line after node total enough taken is so_far =
    let less = line_shortens s line after taken in
    let one : with_items front (nodes_at m rows (suc k) s) ≡ with_items (front ++ node ∷ []) (nodes_at m rows k after) = rw (taken, is) (regroup front node (nodes_at m rows k after)) in
    record { most = k; enough = omega (arith, less, enough); read = sym one ∙ so_far }

same_flaw : (f g : Flaw) → Path (Result ((ℕ × List ℕ) × Left) Flaw) (Err f) (Err g) → Path (Result (List Node × Left) Flaw) (Err f) (Err g)
same_flaw f g e = let same : f ≡ g = cc in ap (λ h. Err h) same

pub nodes_stop_line : (e : AnswerErr) (m rows most : ℕ) (front : List Node) (s : Left) (total : Result (List Node × Left) Flaw) → length s.1 ≤ most →
    Fails e (line_at s) → with_items front (nodes_at m rows most s) ≡ total → Fails e total
unfolding nodes_at
nodes_stop_line errors.Memory m rows most front s total enough failed so_far = tt
nodes_stop_line (errors.Refused f) m rows zero front s total enough failed so_far =
    sym so_far ∙ same_flaw (syntax s.0) f (sym (no_line s enough) ∙ failed)
nodes_stop_line (errors.Refused f) m rows (suc k) front s total enough failed so_far =
    let one : with_items front (nodes_at m rows (suc k) s) ≡ Err f = rw failed refl in
    sym so_far ∙ one

pub nodes_stop_node : (e : AnswerErr) (m rows most : ℕ) (front : List Node) (s : Left) (line : ℕ × List ℕ) (after : Left) (total : Result (List Node × Left) Flaw) → length s.1 ≤ most →
    line_at s ≡ Ok (line, after) → Fails e (node_of m rows line.0 (words_of line.1)) → with_items front (nodes_at m rows most s) ≡ total → Fails e total
unfolding nodes_at
nodes_stop_node errors.Memory m rows most front s line after total enough taken failed so_far = tt
nodes_stop_node (errors.Refused f) m rows zero front s line after total enough taken failed so_far = let less = line_shortens s line after taken in absurd (omega (arith, less, enough))
nodes_stop_node (errors.Refused f) m rows (suc k) front s line after total enough taken failed so_far =
    let one : with_items front (nodes_at m rows (suc k) s) ≡ Err f = rw (taken, failed) refl in
    sym so_far ∙ one

pub nodes_done : (m rows most : ℕ) (front : List Node) (s : Left) (line : ℕ × List ℕ) (after : Left) (total : Result (List Node × Left) Flaw) → length s.1 ≤ most →
    line_at s ≡ Ok (line, after) → node_of m rows line.0 (words_of line.1) ≡ Ok None → with_items front (nodes_at m rows most s) ≡ total → total ≡ Ok (front, after)
unfolding nodes_at
nodes_done m rows zero front s line after total enough taken is so_far = let less = line_shortens s line after taken in absurd (omega (arith, less, enough))
nodes_done m rows (suc k) front s line after total enough taken is so_far =
    let one : with_items front (nodes_at m rows (suc k) s) ≡ Ok (front, after) = rw (taken, is) (ap (λ xs. Ok (xs, after)) (append-nil front)) in
    sym so_far ∙ one
