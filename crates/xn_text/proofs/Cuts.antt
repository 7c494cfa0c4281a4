-- Lines and words are the bytes that they are cut from.
use Rattle.std.proofs.Common.{◌≡◌, ◌≢◌, ℕ, ◌+◌, ◌<◌, ◌≤◌, true, false, inl, inr, eqb, List, [], ◌∷◌, ◌++◌, length, drop, get_or, refl, sym, ap, ◌∙◌, subst, append_assoc, add-one, arith, length-append}
use Rattle.std.proofs.Math.ListN.{get_or-append}
use Rattle.std.proofs.Math.Seq.{get_or-append_seam}
use Rattle.std.proofs.lemmas.Bool.{cases_Bool, eqb-true, eqb-false, ne_eqb, ltb-true, ltb-false, lt-ltb}
use Rattle.std.proofs.lemmas.List.{get_or-take, length-take, take_at, drop_at, take_all, drop_all}
use Rattle.std.proofs.lemmas.List.Elements.{All-nil, All-cons, All-head, All-tail}
use Rattle.std.proofs.lemmas.List.Splits.{join_with_byte-slice_split, slice_split-cons_yes, slice_split-cons_no, slice_split_none, slice_split_at}
use Rattle.std.proofs.lemmas.List.Sums.{fails_before_first, passes_at_first, position_or_len_is, split_at_first}
use Rattle.std.specs.List.{All, before_first, join_with_byte, onto_first, position_or_len}
use Rattle.xn_text.specs.Pieces.{Lacks, TakesLine, is_line_end, words_of}

-- a list without a byte fails the test for it everywhere
pub fails_test : (byte : ℕ) (bytes : List ℕ) → Lacks byte bytes → All (λ b. eqb b byte ≡ false) bytes
fails_test byte bytes lacks = λ k d h. ne_eqb (get_or bytes k d) byte (lacks k d h)

front_lacks : (text : List ℕ) → Lacks 10 (before_first is_line_end text)
front_lacks text = λ k d h.
    let at = position_or_len is_line_end text in
    let within : k < at = omega (arith, h, length-take at text) in
    rw (get_or-take at text k d within) (eqb-false (get_or text k d) 10 (fails_before_first is_line_end text k d within))

pub ended_stands : (old new : ℕ × List ℕ) (number : ℕ) (line : List ℕ) → TakesLine old new number line true → Lacks 10 line × (old.1 ≡ line ++ 10 ∷ new.1)
ended_stands old new number line t =
    let at = position_or_len is_line_end old.1 in
    let within : at < length old.1 = ltb-true at (length old.1) (sym t.ended_is) in
    let ten : get_or old.1 at 0 ≡ 10 = eqb-true (get_or old.1 at 0) 10 (passes_at_first is_line_end old.1 0 within) in
    let cut = split_at_first is_line_end old.1 0 within in
    (subst (Lacks 10) (sym t.bytes_are) (front_lacks old.1), cc (cut, ten, t.bytes_are, t.rest_is))

pub last_stands : (old new : ℕ × List ℕ) (number : ℕ) (line : List ℕ) → TakesLine old new number line false → Lacks 10 line × (old.1 ≡ line) × (new.1 ≡ [])
last_stands old new number line t =
    let at = position_or_len is_line_end old.1 in
    let past : length old.1 ≤ at = ltb-false at (length old.1) (sym t.ended_is) in (
      subst (Lacks 10) (sym t.bytes_are) (front_lacks old.1),
      sym (t.bytes_are ∙ take_all at old.1 past),
      t.rest_is ∙ drop_all (at + 1) old.1 (omega arith),
    )

pub ended_is_taken : (number : ℕ) (line rest : List ℕ) → Lacks 10 line → TakesLine (number, line ++ 10 ∷ rest) (number + 1, rest) number line true
ended_is_taken number line rest lacks =
    let text = line ++ 10 ∷ rest in
    let long : length text ≡ length line + (length rest + 1) = length-append line (10 ∷ rest) ∙ ap (λ (n : ℕ). length line + n) (sym (add-one (length rest))) in
    let at : position_or_len is_line_end text ≡ length line =
    position_or_len_is is_line_end text (length line) 0 (omega (arith, long))
    (λ k h. ap is_line_end (get_or-append line (10 ∷ rest) 0 k h) ∙ fails_test 10 line lacks k 0 h)
    (λ h. ap is_line_end (get_or-append_seam line 10 rest 0)) in
    let behind : drop (length line + 1) text ≡ rest =
    ap (drop (length line + 1)) (sym (append_assoc line (10 ∷ []) rest)) ∙ drop_at (line ++ 10 ∷ []) rest (length line + 1) (length-append line (10 ∷ [])) in
    record {
      some = omega (arith, long);
      number_is = refl;
      bytes_are = sym (rw at (take_at line (10 ∷ rest) (length line) refl));
      ended_is = sym (rw at (lt-ltb (length line) (length text) (omega (arith, long))));
      next_number = refl;
      rest_is = sym (rw at behind);
    }

-- a byte in front of the first word
onto_lacks : (b : ℕ) (words : List (List ℕ)) → b ≢ 32 → All (Lacks 32) words → All (Lacks 32) (onto_first b words)
onto_lacks b [] apart lack = All-cons (Lacks 32) (b ∷ []) [] (All-cons (λ x. x ≢ 32) b [] apart (All-nil (λ x. x ≢ 32))) (All-nil (Lacks 32))
onto_lacks b (word ∷ words) apart lack = All-cons (Lacks 32) (b ∷ word) words (All-cons (λ x. x ≢ 32) b word apart (All-head (Lacks 32) word words lack)) (All-tail (Lacks 32) word words lack)

words_lack : (line : List ℕ) → All (Lacks 32) (words_of line)
words_lack [] = All-cons (Lacks 32) [] [] (All-nil (λ x. x ≢ 32)) (All-nil (Lacks 32))
words_lack (b ∷ line) = elim (cases_Bool (eqb b 32)) [
  | inl space ↦ rw (slice_split-cons_yes (λ x. eqb x 32) b line space) (All-cons (Lacks 32) [] (words_of line) (All-nil (λ x. x ≢ 32)) (words_lack line))
  | inr other ↦ rw (slice_split-cons_no (λ x. eqb x 32) b line other) (onto_lacks b (words_of line) (eqb-false b 32 other) (words_lack line))
]

pub words_are_the_line : (line : List ℕ) → All (Lacks 32) (words_of line) × (join_with_byte 32 (words_of line) ≡ line)
words_are_the_line line = (words_lack line, join_with_byte-slice_split 32 line)

pub joined_are_found : (words : List (List ℕ)) → 0 < length words → All (Lacks 32) words → words_of (join_with_byte 32 words) ≡ words
joined_are_found [] some lack = absurd (omega arith)
joined_are_found (word ∷ []) some lack = slice_split_none (λ x. eqb x 32) word (fails_test 32 word (All-head (Lacks 32) word [] lack))
joined_are_found (word ∷ second ∷ others) some lack =
    slice_split_at (λ x. eqb x 32) word 32 (join_with_byte 32 (second ∷ others)) (fails_test 32 word (All-head (Lacks 32) word (second ∷ others) lack)) refl
    ∙ ap (λ (l : List (List ℕ)). word ∷ l) (joined_are_found (second ∷ others) (omega arith) (All-tail (Lacks 32) word (second ∷ others) lack))
