-- The rules of tokens, one by one.
use Rattle.std.proofs.Common.{◌≡◌, ℕ, suc, ◌+◌, ◌<◌, ◌==◌, Bool, true, false, ◌||◌, cond, List, [], ◌∷◌, ◌++◌, length, take, drop, Option, Some, None, nat_lt, position, refl, ap, ◌∙◌, length-append, arith}
use Rattle.std.specs.List.{position_or_len, before_first}
use Rattle.std.proofs.lemmas.Bool.{lt-ltb, le-ltb}
use Rattle.xn_model.proofs.Tests.{neither}
use Rattle.xn_gml.specs.declared.token.Kind.TheVariants.{Open, Close, Quoted, Malformed}
use Rattle.xn_gml.specs.declared.token.Token.{Token}
use Rattle.xn_gml.specs.Rules.{NonePasses, IsStopped}
use Rattle.xn_gml.specs.Runs.{kind_of_run}
use Rattle.xn_gml.specs.Tokens.{is_separator, is_line_end, is_quote, ends_run, token, shown, quoted_by, quoted, begins, tokens_from}
use Rattle.xn_gml.proofs.Steps.{passed}

-- the place of the first byte that passes
place : (test : ℕ → Bool) (xs ys : List ℕ) → NonePasses test xs → IsStopped test ys → position_or_len test (xs ++ ys) ≡ length xs
place test [] [] lacks stopped = refl
place test [] (y ∷ ys) lacks stopped = rw stopped refl
place test (x ∷ xs) ys lacks stopped = rw lacks.0 (omega (arith, place test xs ys lacks.1 stopped))

pub place_none : (test : ℕ → Bool) (xs : List ℕ) → NonePasses test xs → position_or_len test xs ≡ length xs
place_none test [] lacks = refl
place_none test (x ∷ xs) lacks = rw lacks.0 (omega (arith, place_none test xs lacks.1))

some_place : (m n : ℕ) → m < n → cond (nat_lt m n) (Some m) None ≡ Some m
some_place m n h = rw (lt-ltb m n h) refl

no_place : (n : ℕ) → cond (nat_lt n n) (Some n) None ≡ None
no_place n = rw (le-ltb n n (omega arith)) refl

found : (test : ℕ → Bool) (xs ys : List ℕ) (y : ℕ) → NonePasses test xs → test y ≡ true → position test (xs ++ y ∷ ys) ≡ Some (length xs)
found test xs ys y lacks stop =
    ap (λ (m : ℕ). cond (nat_lt m (length (xs ++ y ∷ ys))) (Some m) None) (place test xs (y ∷ ys) lacks stop)
    ∙ some_place (length xs) (length (xs ++ y ∷ ys)) (omega (arith, length-append xs (y ∷ ys)))

pub missing : (test : ℕ → Bool) (xs : List ℕ) → NonePasses test xs → position test xs ≡ None
missing test xs lacks = ap (λ (m : ℕ). cond (nat_lt m (length xs)) (Some m) None) (place_none test xs lacks) ∙ no_place (length xs)

dropped : (xs ys : List ℕ) → drop (length xs) (xs ++ ys) ≡ ys
dropped [] ys = refl
dropped (x ∷ xs) ys = dropped xs ys

dropped_one : (xs ys : List ℕ) (y : ℕ) → drop (suc (length xs)) (xs ++ y ∷ ys) ≡ ys
dropped_one [] ys y = refl
dropped_one (x ∷ xs) ys y = dropped_one xs ys y

dropped_all : (xs : List ℕ) → drop (length xs) xs ≡ []
dropped_all [] = refl
dropped_all (x ∷ xs) = dropped_all xs

taken : (xs ys : List ℕ) → take (length xs) (xs ++ ys) ≡ xs
taken [] ys = refl
taken (x ∷ xs) ys = ap (λ (zs : List ℕ). x ∷ zs) (taken xs ys)

pub separator_is_passed : (at b : ℕ) (bytes : List ℕ) → is_separator b ≡ true → tokens_from 0 at (b ∷ bytes) ≡ tokens_from 0 (at + 1) bytes
unfolding tokens_from begins
separator_is_passed at b bytes e = rw e refl

pub comment_is_skipped : (at : ℕ) (text bytes : List ℕ) → NonePasses is_line_end text → IsStopped is_line_end bytes →
    tokens_from 0 at (35 ∷ (text ++ bytes)) ≡ tokens_from 0 (at + 1 + length text) bytes
unfolding tokens_from begins
comment_is_skipped at text bytes lacks stopped =
    ap (λ (k : ℕ). tokens_from k (at + 1) (text ++ bytes)) (place is_line_end text bytes lacks stopped)
    ∙ passed (length text) (at + 1) (text ++ bytes) ∙ ap (tokens_from 0 (at + 1 + length text)) (dropped text bytes)

pub bracket_is_token : (at : ℕ) (bytes : List ℕ) → (tokens_from 0 at (91 ∷ bytes) ≡ token at Open ∷ tokens_from 0 (at + 1) bytes)
    × (tokens_from 0 at (93 ∷ bytes) ≡ token at Close ∷ tokens_from 0 (at + 1) bytes)
unfolding tokens_from begins
bracket_is_token at bytes = (refl, refl)

-- what a string's place gives
by_quote : ℕ → List ℕ → Option ℕ → List Token
by_quote at after place = shown (quoted_by at after place).0 (tokens_from (quoted_by at after place).1 (at + 1) after)

quote_first : (at : ℕ) (after : List ℕ) (place : Option ℕ) → position is_quote after ≡ place → tokens_from 0 at (34 ∷ after) ≡ by_quote at after place
unfolding tokens_from begins quoted by_quote
quote_first at after place e = ap (by_quote at after) e

pub string_is_token : (at : ℕ) (text bytes : List ℕ) → NonePasses is_quote text →
    tokens_from 0 at (34 ∷ (text ++ 34 ∷ bytes)) ≡ token at Quoted ∷ tokens_from 0 (at + 2 + length text) bytes
unfolding by_quote
string_is_token at text bytes lacks =
    let place : length text + 1 ≡ suc (length text) = omega arith in
    let sum : at + 1 + suc (length text) ≡ at + 2 + length text = omega arith in
    quote_first at (text ++ 34 ∷ bytes) (Some (length text)) (found is_quote text bytes 34 lacks refl)
    ∙ ap (λ (k : ℕ). token at Quoted ∷ tokens_from k (at + 1) (text ++ 34 ∷ bytes)) place
    ∙ ap (λ (ts : List Token). token at Quoted ∷ ts) (passed (suc (length text)) (at + 1) (text ++ 34 ∷ bytes)
    ∙ ap (tokens_from 0 (at + 1 + suc (length text))) (dropped_one text bytes 34) ∙ ap (λ (a : ℕ). tokens_from 0 a bytes) sum)

pub no_bytes : (at : ℕ) → tokens_from 0 at [] ≡ []
unfolding tokens_from
no_bytes at = refl

pub open_string_is_malformed : (at : ℕ) (text : List ℕ) → NonePasses is_quote text → tokens_from 0 at (34 ∷ text) ≡ token (at + 1 + length text) Malformed ∷ []
unfolding by_quote
open_string_is_malformed at text lacks =
    quote_first at text None (missing is_quote text lacks)
    ∙ ap (λ (ts : List Token). token (at + 1 + length text) Malformed ∷ ts) (passed (length text) (at + 1) text
    ∙ ap (tokens_from 0 (at + 1 + length text)) (dropped_all text) ∙ no_bytes (at + 1 + length text))

-- where a run begins
run_first : (at b : ℕ) (after : List ℕ) → ends_run b ≡ false → (b == 35) ≡ false →
    begins at b after ≡ (Some (token at (kind_of_run (b ∷ before_first ends_run after))), position_or_len ends_run after)
unfolding begins
run_first at b after goes_on hash =
    let quote = neither (is_separator b || b == 91 || b == 93) (b == 34) goes_on in
    let close = neither (is_separator b || b == 91) (b == 93) quote.0 in
    let opens = neither (is_separator b) (b == 91) close.0 in
    rw (opens.0, hash, opens.1, close.1, quote.1) refl

pub run_is_token : (at b : ℕ) (run bytes : List ℕ) → (b == 35) ≡ false → NonePasses ends_run (b ∷ run) → IsStopped ends_run bytes →
    tokens_from 0 at (b ∷ (run ++ bytes)) ≡ token at (kind_of_run (b ∷ run)) ∷ tokens_from 0 (at + 1 + length run) bytes
unfolding tokens_from
run_is_token at b run bytes hash lacks stopped =
    ap (λ (f : Option Token × ℕ). shown f.0 (tokens_from f.1 (at + 1) (run ++ bytes))) (run_first at b (run ++ bytes) lacks.0 hash)
    ∙ ap (λ (k : ℕ). token at (kind_of_run (b ∷ take k (run ++ bytes))) ∷ tokens_from k (at + 1) (run ++ bytes)) (place ends_run run bytes lacks.1 stopped)
    ∙ ap (λ (r : List ℕ). token at (kind_of_run (b ∷ r)) ∷ tokens_from (length run) (at + 1) (run ++ bytes)) (taken run bytes)
    ∙ ap (λ (ts : List Token). token at (kind_of_run (b ∷ run)) ∷ ts) (passed (length run) (at + 1) (run ++ bytes)
    ∙ ap (tokens_from 0 (at + 1 + length run)) (dropped run bytes))
