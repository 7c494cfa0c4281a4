-- The grammar of a text: a list of pairs, each a key and its value.
use Rattle.std.specs.Prelude.{ℕ, ◌+◌, ◌-◌, nat_lt, Bool, true, false, not, ◌||◌, List, [], ◌∷◌, length, Result, Ok, Err, if◌then◌else◌}
use Rattle.xn_gml.specs.declared.errors.GmlErr.{GmlErr}
use Rattle.xn_gml.specs.declared.errors.GmlErr.TheVariants.{Syntax, Deep}
use Rattle.xn_gml.specs.declared.token.Kind.{Kind}
use Rattle.xn_gml.specs.declared.token.Kind.TheVariants.{Open, Close, Word, Malformed}
use Rattle.xn_gml.specs.declared.token.Token.{Token}
use Rattle.xn_gml.specs.Tokens.{tokens_of}

-- whether a token can stand where the value of a key is awaited, or else a key, while so many lists are open
abbrev pub stands : Bool → ℕ → Kind → Bool
stands true depth Close = false
stands true depth Malformed = false
stands true depth kind = true
stands false depth (Word key) = true
stands false depth Close = nat_lt 0 depth
stands false depth kind = false

-- whether a value is awaited after a token: after a word that is a key
abbrev pub awaits : Bool → Kind → Bool
awaits awaited (Word key) = not awaited
awaits awaited kind = false

-- how many lists are open after a token
abbrev pub opened : Kind → ℕ → ℕ
opened Open depth = depth + 1
opened Close depth = depth - 1
opened kind depth = depth

-- tokens that can each stand in its place, or the first flaw; the text ends at an offset, with no list open and no key without value
unfoldable pub grammar_from : ℕ → Bool → ℕ → List Token → Result (Unit {0}) GmlErr
grammar_from end awaited depth [] = if awaited || nat_lt 0 depth then Err (Syntax end) else Ok tt
grammar_from end awaited depth (t ∷ tokens) =
    if not (stands awaited depth t.kind) then Err (Syntax t.at) else
    (if nat_lt 64 (opened t.kind depth) then Err (Deep t.at) else
    grammar_from end (awaits awaited t.kind) (opened t.kind depth) tokens)

abbrev pub grammar_of : List ℕ → Result (Unit {0}) GmlErr
grammar_of text = grammar_from (length text) false 0 (tokens_of text)
