-- The rules of tokens, one by one, for texts that are put together.
use Rattle.std.specs.Prelude.{◌≡◌, ℕ, ◌+◌, ◌==◌, Bool, true, false, List, [], ◌∷◌, ◌++◌, length}
use Rattle.xn_gml.specs.declared.token.Kind.TheVariants.{Open, Close, Quoted, Malformed}
use Rattle.xn_gml.specs.Runs.{kind_of_run}
use Rattle.xn_gml.specs.Tokens.{is_separator, is_line_end, is_quote, ends_run, token, tokens_from}

-- no byte passes
abbrev pub NonePasses : (ℕ → Bool) → List ℕ → Type 0
NonePasses test [] = Unit {0}
NonePasses test (b ∷ bytes) = (test b ≡ false) × NonePasses test bytes

-- there is no byte, or the first passes
abbrev pub IsStopped : (ℕ → Bool) → List ℕ → Type 0
IsStopped test [] = Unit {0}
IsStopped test (b ∷ bytes) = test b ≡ true

-- a separator is passed over
abbrev pub SeparatorIsPassed : Type 0
SeparatorIsPassed = (at b : ℕ) (bytes : List ℕ) → is_separator b ≡ true → tokens_from 0 at (b ∷ bytes) ≡ tokens_from 0 (at + 1) bytes

-- a comment is skipped up to the line's end
abbrev pub CommentIsSkipped : Type 0
CommentIsSkipped =
    (at : ℕ) (text bytes : List ℕ) → NonePasses is_line_end text → IsStopped is_line_end bytes →
    tokens_from 0 at (35 ∷ (text ++ bytes)) ≡ tokens_from 0 (at + 1 + length text) bytes

-- a bracket is a token
abbrev pub BracketIsToken : Type 0
BracketIsToken =
    (at : ℕ) (bytes : List ℕ) → (tokens_from 0 at (91 ∷ bytes) ≡ token at Open ∷ tokens_from 0 (at + 1) bytes)
    × (tokens_from 0 at (93 ∷ bytes) ≡ token at Close ∷ tokens_from 0 (at + 1) bytes)

-- a string is a token
abbrev pub StringIsToken : Type 0
StringIsToken =
    (at : ℕ) (text bytes : List ℕ) → NonePasses is_quote text →
    tokens_from 0 at (34 ∷ (text ++ 34 ∷ bytes)) ≡ token at Quoted ∷ tokens_from 0 (at + 2 + length text) bytes

-- a string that isn't closed is malformed, at the end of the text
abbrev pub OpenStringIsMalformed : Type 0
OpenStringIsMalformed =
    (at : ℕ) (text : List ℕ) → NonePasses is_quote text → tokens_from 0 at (34 ∷ text) ≡ token (at + 1 + length text) Malformed ∷ []

-- a run is a token, as long as it can be
abbrev pub RunIsToken : Type 0
RunIsToken =
    (at b : ℕ) (run bytes : List ℕ) → (b == 35) ≡ false → NonePasses ends_run (b ∷ run) → IsStopped ends_run bytes →
    tokens_from 0 at (b ∷ (run ++ bytes)) ≡ token at (kind_of_run (b ∷ run)) ∷ tokens_from 0 (at + 1 + length run) bytes
