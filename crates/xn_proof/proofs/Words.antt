-- The words that are left of a line.
use Rattle.std.proofs.Common.{◌≡◌, ℕ, zero, suc, ◌+◌, ◌-◌, ◌≤◌, ◌<◌, true, List, [], ◌∷◌, Ok, length, take, refl, ap, arith}
use Rattle.std.proofs.lemmas.List.Splits.{length-slice_split}
use Rattle.std.proofs.lemmas.List.Sums.{count_by-le-length}
use Rattle.std.specs.Prelude.{◌==◌}
use Rattle.std.specs.Str.{bytes_eq}
use Rattle.xn_text.specs.Pieces.{words_of}
use Rattle.xn_proof.specs.Reading.{each_at, has_key, keyed, number_of, value_at, values_of}

-- the first of so many words, with others behind it
pub first_value : (words : List (List ℕ)) (left : ℕ) (word : List ℕ) (others : List (List ℕ)) → 0 < left → words ≡ word ∷ others → values_of (take left words) ≡ number_of word ∷ values_of (take (left - 1) others)
first_value words zero word others some is = absurd (omega arith)
first_value words (suc left) word others some is = let one : suc left - 1 ≡ left = omega arith in rw (is, one) refl

pub one_fewer : (words : List (List ℕ)) (left : ℕ) (word : List ℕ) (others : List (List ℕ)) → left ≤ length words → words ≡ word ∷ others → left - 1 ≤ length others
one_fewer words left word others within is = let long : length words ≡ suc (length others) = ap length is in omega (arith, within, long)

-- the one word
pub last_value : (words : List (List ℕ)) (left : ℕ) (word : List ℕ) → 0 < left → left ≤ length words → words ≡ word ∷ [] → values_of (take left words) ≡ number_of word ∷ values_of (take (left - 1) words)
last_value words left word some within is =
    let long : length words ≡ 1 = ap length is in
    let one : left ≡ 1 = omega (arith, within, long) in
    rw (one, is) refl

-- a line has at most one word more than bytes
pub few_words : (line : List ℕ) → length (words_of line) ≤ length line + 1
few_words line = omega (arith, length-slice_split (λ (b : ℕ). b == 32) line, count_by-le-length (λ (b : ℕ). b == 32) line)

-- the words behind the key
pub keyed_behind : (key : List ℕ) (i : ℕ) (words : List (List ℕ)) (word : List ℕ) (others : List (List ℕ)) → has_key key words ≡ true → words ≡ word ∷ others → keyed key i words ≡ each_at (value_at i) others
unfolding keyed
keyed_behind key i words word others has is = let test : bytes_eq word key ≡ true = rw is at has in rw (is, test) refl

-- the key alone
pub keyed_alone : (key : List ℕ) (i : ℕ) (words : List (List ℕ)) (word : List ℕ) → has_key key words ≡ true → words ≡ word ∷ [] → keyed key i words ≡ Ok []
unfolding each_at
keyed_alone key i words word has is = keyed_behind key i words word [] has is
